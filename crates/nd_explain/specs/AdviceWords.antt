-- What is said of each fault, as the table of docs/REFUSALS.md has it: a table of pairs, its cause and its cure.
-- Public clauses cite `advice_words`.
use Rattle.std.specs.Prelude.{ℕ, List, codes}
use Rattle.nd_cli.specs.declared.fault.DerivationError.{DerivationError}
use Rattle.nd_cli.specs.declared.fault.HistoryTextError.{HistoryTextError}
use Rattle.nd_links.specs.declared.fault.GraphError.{GraphError}
use Rattle.nd_machines.specs.declared.machine_error.MachineError.{MachineError}
use Rattle.nd_closure.specs.declared.info_error.InfoError.{InfoError}
use Rattle.nd_script.specs.declared.script_error.ScriptError.{ScriptError}
use Rattle.nd_cli.specs.declared.fault.CliFault.{CliFault}
use Rattle.nd_cli.specs.declared.fault.CliFault.TheVariants.{Derivation, Drvs, Builders, Info, Script, Stand, History, TooLarge, TooManySlots, Read, Write, Memory, Thread, Receipts}

-- a cause and its cure
abbrev pub Pair : Type 0
Pair = List ℕ × List ℕ

-- want of memory
abbrev pub no_memory : Pair
no_memory = (codes "there was no memory", codes "give the program more memory, or less to do")

-- a derivation text, or its name
abbrev pub derivation_advice : DerivationError → Pair
derivation_advice DerivationError.BadPath = (
  codes "the name is no name of a store path, or doesn't end in .drv",
  codes "give the name of the .drv file behind its digest, as hello.drv",
)
derivation_advice DerivationError.BadDerivation = (
  codes "the text is no derivation text, or has a path that is no store path of its kind",
  codes "take the .drv file as Nix wrote it",
)

-- a bundle
abbrev pub bundle_advice : GraphError → Pair
bundle_advice (GraphError.BadLine n) = (
  codes "the line is empty or has no space",
  codes "write the path of the derivation, one space and its text on each line, as farm/gather does",
)
bundle_advice (GraphError.BadPath n) = (
  codes "what stands before the first space of the line is no store path that ends in .drv",
  codes "begin the line with the path of the .drv file, as /nix/store/DIGEST-NAME.drv",
)
bundle_advice (GraphError.BadDerivation n) = (
  codes "what stands behind the first space of the line is no derivation text, or has a path that is no store path of its kind",
  codes "take the .drv file as Nix wrote it",
)
bundle_advice (GraphError.UnknownOutput n) = (
  codes "the path of an output is empty, so it isn't known before the build",
  codes "leave out derivations whose output paths come to light only with the build",
)
bundle_advice (GraphError.BadAttribute n) = (
  codes "the structured attributes of the derivation can't be read",
  codes "make __json an object in which requiredSystemFeatures is an array of strings and preferLocalBuild a boolean",
)
bundle_advice (GraphError.WrongPath n) = (
  codes "the path of the line isn't the one that its name and its text have",
  codes "take both from one .drv file, or leave out --check-paths",
)
bundle_advice (GraphError.Duplicate n) = (codes "an earlier line has the same path", codes "leave one of the two lines out")
bundle_advice (GraphError.MissingInput n) = (
  codes "an input derivation of the line has no line",
  codes "add a line for each input derivation, as farm/gather does",
)
bundle_advice (GraphError.MissingOutput n) = (
  codes "the line names an output that its input derivation doesn't have",
  codes "take all .drv files from one store",
)
bundle_advice GraphError.Cycle = (codes "a derivation needs itself, over others or not", codes "take all .drv files from one store, where none does")
bundle_advice GraphError.TooMany = (codes "the bundle has more than 65,536 lines", codes "divide the bundle")
bundle_advice GraphError.Memory = no_memory

-- a builders list
abbrev pub builders_advice : MachineError → Pair
builders_advice (MachineError.Uri n) = (codes "the first field of the entry, its URI, is -", codes "begin the entry with the URI of the builder")
builders_advice (MachineError.Jobs n) = (
  codes "the fourth field of the entry, its jobs, is no number from 0 to 65,535",
  codes "write such a number, or - for 1",
)
builders_advice (MachineError.Speed n) = (
  codes "the fifth field of the entry, its speed factor, is no number above 0 and up to 1,000,000 with at most 6 digits behind a point",
  codes "write such a number, or - for 1",
)
builders_advice (MachineError.Include n) = (
  codes "the entry begins with @, which would name a further file",
  codes "write the entries of that file in its place",
)
builders_advice (MachineError.TooMany n) = (codes "1,024 entries stand before this one, and no more are taken", codes "leave builders out")
builders_advice MachineError.Memory = no_memory

-- an info text
abbrev pub info_advice : InfoError → Pair
info_advice (InfoError.BadLine n) = (
  codes "the line isn't a store path and its references with single spaces between them, or an earlier line has the same path",
  codes "write one line for each path, as farm/gather does",
)
info_advice InfoError.Memory = no_memory

-- a script
abbrev pub script_advice : ScriptError → Pair
script_advice (ScriptError.BadLine n) = (
  codes "the line is no command, or names a derivation, a machine or a status that isn't there, or a word that is no store path",
  codes "write a command of the table \"Script\" in docs/DESIGN.md",
)
script_advice ScriptError.Memory = no_memory

-- a stand text
abbrev pub stand_advice : ScriptError → Pair
stand_advice (ScriptError.BadLine n) = (
  codes "the line is no rule, or names a derivation, a machine or a status that isn't there, or a word that is no store path",
  codes "write a rule of the table \"Stand text\" in docs/DESIGN.md",
)
stand_advice ScriptError.Memory = no_memory

-- a history text
abbrev pub history_advice : HistoryTextError → Pair
history_advice HistoryTextError.Version = (
  codes "the text doesn't begin with the line of a version",
  codes "begin with the line nix-dispatch-history 1 or nix-dispatch-history 2",
)
history_advice (HistoryTextError.BadLine n) = (
  codes "the line is no entry of its version, or has no newline at its end",
  codes "take the history as it was written, to its last newline",
)

-- any fault
abbrev pub advice_words : CliFault → Pair
advice_words (Derivation e) = derivation_advice e
advice_words (Drvs e) = bundle_advice e
advice_words (Builders e) = builders_advice e
advice_words (Info e) = info_advice e
advice_words (Script e) = script_advice e
advice_words (Stand e) = stand_advice e
advice_words (History e) = history_advice e
advice_words TooManySlots = (codes "the machines have more than 1,024 slots together, and a run has a worker for each", codes "lower --jobs or the jobs of builders")
advice_words (TooLarge place) = (codes "the input has more than 67,108,864 bytes, or a journal more than 1,073,741,824", codes "make the input smaller; a bundle may be divided")
advice_words Read = (codes "a file can't be opened, or a read was refused", codes "look at what the system says of it")
advice_words Write = (codes "a write to standard output was refused", codes "look at what the system says of it")
advice_words Memory = no_memory
advice_words Thread = (codes "the system started no thread for a slot of the run", codes "allow the program more threads, or give it fewer slots")
advice_words Receipts = (codes "the run didn't come to its end, or its history isn't the one that its workers say they made", codes "report it: the program is to blame, and none of its inputs")
