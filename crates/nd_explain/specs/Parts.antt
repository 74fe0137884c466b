-- Which input a fault is about, and which part of it. Public clauses cite this.
use Rattle.std.specs.Prelude.{Option, Some, None}
use Rattle.nd_cli.specs.declared.fault.Place.{Place}
use Rattle.nd_cli.specs.declared.fault.HistoryTextError.{HistoryTextError}
use Rattle.nd_cli.specs.declared.fault.CliFault.{CliFault}
use Rattle.nd_cli.specs.declared.fault.CliFault.TheVariants.{Derivation, Drvs, Builders, Info, Script, Stand, History, TooLarge, TooManySlots, Read, Write, Memory, Thread, Receipts}
use Rattle.nd_links.specs.declared.fault.GraphError.{GraphError}
use Rattle.nd_machines.specs.declared.machine_error.MachineError.{MachineError}
use Rattle.nd_closure.specs.declared.info_error.InfoError.{InfoError}
use Rattle.nd_script.specs.declared.script_error.ScriptError.{ScriptError}
use Rattle.nd_explain.specs.declared.parts.Part.{Part}
use Rattle.nd_explain.specs.declared.parts.Part.TheVariants.{Nowhere, Whole, Line, Entry}

-- the input that a fault is about; none where a device, the memory or a run failed
abbrev pub place_named : CliFault → Option Place
place_named (Derivation e) = Some Place.Derivation
place_named (Drvs e) = Some Place.Drvs
place_named (Builders e) = Some Place.Builders
place_named (Info e) = Some Place.Info
place_named (Script e) = Some Place.Script
place_named (Stand e) = Some Place.Stand
place_named (History e) = Some Place.History
place_named (TooLarge place) = Some place
place_named TooManySlots = Some Place.Builders
place_named Read = None
place_named Write = None
place_named Memory = None
place_named Thread = None
place_named Receipts = None

-- the line of a bundle
abbrev pub line_of_bundle : GraphError → Part
line_of_bundle (GraphError.BadLine n) = Line n
line_of_bundle (GraphError.BadPath n) = Line n
line_of_bundle (GraphError.BadDerivation n) = Line n
line_of_bundle (GraphError.UnknownOutput n) = Line n
line_of_bundle (GraphError.BadAttribute n) = Line n
line_of_bundle (GraphError.WrongPath n) = Line n
line_of_bundle (GraphError.Duplicate n) = Line n
line_of_bundle (GraphError.MissingInput n) = Line n
line_of_bundle (GraphError.MissingOutput n) = Line n
line_of_bundle GraphError.Cycle = Nowhere
line_of_bundle GraphError.TooMany = Nowhere
line_of_bundle GraphError.Memory = Nowhere

-- the entry of a builders list
abbrev pub entry_of_builders : MachineError → Part
entry_of_builders (MachineError.Uri n) = Entry n
entry_of_builders (MachineError.Jobs n) = Entry n
entry_of_builders (MachineError.Speed n) = Entry n
entry_of_builders (MachineError.Include n) = Entry n
entry_of_builders (MachineError.TooMany n) = Entry n
entry_of_builders MachineError.Memory = Nowhere

-- the line of an info text
abbrev pub line_of_info : InfoError → Part
line_of_info (InfoError.BadLine n) = Line n
line_of_info InfoError.Memory = Nowhere

-- the line of a script or of a stand text
abbrev pub line_of_script : ScriptError → Part
line_of_script (ScriptError.BadLine n) = Line n
line_of_script ScriptError.Memory = Nowhere

-- the line of a history text, whose version stands on the first one
abbrev pub line_of_history : HistoryTextError → Part
line_of_history HistoryTextError.Version = Line 1
line_of_history (HistoryTextError.BadLine n) = Line n

-- the part of that input that is refused
abbrev pub part_named : CliFault → Part
part_named (Derivation e) = Whole
part_named (Drvs e) = line_of_bundle e
part_named (Builders e) = entry_of_builders e
part_named (Info e) = line_of_info e
part_named (Script e) = line_of_script e
part_named (Stand e) = line_of_script e
part_named (History e) = line_of_history e
part_named (TooLarge place) = Nowhere
part_named TooManySlots = Nowhere
part_named Read = Nowhere
part_named Write = Nowhere
part_named Memory = Nowhere
part_named Thread = Nowhere
part_named Receipts = Nowhere
