-- What `run` is given: the park and the bundle, as for every command over a bundle, and the stand text. The clauses of `run_inputs`
-- cite this.
use Rattle.std.specs.Prelude.{◌≡◌, ◌≢◌, ◌⊎◌, ℕ, ◌+◌, ◌<◌, ◌≤◌, true, List, [], length, Option}
use Rattle.nd_machines.specs.Builders.{Builder}
use Rattle.nd_graph.specs.Graphs.{Nodes, rows_of}
use Rattle.nd_bytes.specs.Lines.{lines_of}
use Rattle.nd_history.specs.Premises.{Premises}
use Rattle.nd_ledger.specs.Worlds.{World}
use Rattle.nd_devices.specs.Watched.{Watched}
use Rattle.nd_script.specs.declared.rule.Rule.{Rule}
use Rattle.nd_script.specs.declared.script_error.ScriptError.{ScriptError}
use Rattle.nd_script.specs.Stand.{AreRules, IsStandRefused}
use Rattle.nd_cli.specs.Inputs.{limit, ReadsWhole}
use Rattle.nd_cli.specs.Parks.{HasPark, IsParkFault, local_of}
use Rattle.nd_cli.specs.declared.options.ParkOptions.{ParkOptions}
use Rattle.nd_cli.specs.declared.fault.Place.{Place}
use Rattle.nd_cli.specs.declared.fault.CliFault.{CliFault}
use Rattle.nd_cli.specs.declared.fault.CliFault.TheVariants.{Derivation, Drvs, Builders, Info, Script, Stand, History, TooLarge, TooManySlots, Read, Write, Memory, Thread, Receipts}

-- the stand text is within the limit, and these are its rules
pub record HasRules (stand : List ℕ) (drvs machines : ℕ) (rules : List Rule) : Type 0 where
  pub within : length stand ≤ limit
  pub read : AreRules drvs machines (lines_of stand) rules

-- Why the stand text is refused: it is too large, or this is its first bad line. Want of memory is no refusal of it, and is told only
-- of one that isn't too large.
abbrev pub IsStandFault : List ℕ → ℕ → ℕ → CliFault → Type 0
IsStandFault stand drvs machines (TooLarge place) = (place ≡ Place.Stand) × (limit < length stand)
IsStandFault stand drvs machines (Stand refusal) = (length stand ≤ limit) × IsStandRefused drvs machines stand refusal × (refusal ≢ ScriptError.Memory)
IsStandFault stand drvs machines Memory = length stand ≤ limit
IsStandFault stand drvs machines _ = ⊥

-- what a dispatch of this graph and this park is made of
abbrev pub premises_for : ParkOptions → Nodes → List Builder → List (List ℕ × List (List ℕ)) → Premises
premises_for options graph machines info = record { graph = graph; machines = machines; local = local_of options; info = info; keep_going = options.keep_going }

-- the whole input is a bundle for the park of the options, and the stand text has these rules; the dispatch is theirs, and has
-- no history yet
pub record IsGiven {R : Type 0} (options : ParkOptions) (stand : List ℕ) (remaining : R → Option (List ℕ)) (reader reader_after : Watched R) (dispatch : World) (rules : List Rule) : Type 0 where
  pub text : List ℕ
  pub read : ReadsWhole (remaining reader.device) (remaining reader_after.device) text
  pub graph : Nodes
  pub machines : List Builder
  pub info : List (List ℕ × List (List ℕ))
  pub park : HasPark options text graph machines info
  pub inputs : dispatch.inputs ≡ premises_for options graph machines info
  pub begun : dispatch.history ≡ []
  pub ruled : HasRules stand (length (rows_of graph)) (length machines + 1) rules

-- each input is accepted
pub record IsGivenAccepted (options : ParkOptions) (text stand : List ℕ) : Type 0 where
  pub graph : Nodes
  pub machines : List Builder
  pub info : List (List ℕ × List (List ℕ))
  pub park : HasPark options text graph machines info
  pub rules : List Rule
  pub ruled : HasRules stand (length (rows_of graph)) (length machines + 1) rules

-- the park and the bundle are accepted, and the stand text is refused for this reason
pub record IsStandAtFault (options : ParkOptions) (text stand : List ℕ) (fault : CliFault) : Type 0 where
  pub graph : Nodes
  pub machines : List Builder
  pub info : List (List ℕ × List (List ℕ))
  pub park : HasPark options text graph machines info
  pub refused : IsStandFault stand (length (rows_of graph)) (length machines + 1) fault

-- what was read is refused for this reason: the bundle and the park, or else the stand text
pub record RefusesGiven (options : ParkOptions) (stand : List ℕ) (unread left : Option (List ℕ)) (fault : CliFault) : Type 0 where
  pub text : List ℕ
  pub read : ReadsWhole unread left text
  pub refused : IsParkFault options text fault ⊎ IsStandAtFault options text stand fault

-- why there is nothing to run: an input is refused, the reader failed and is marked, or memory ran out
abbrev pub IsGivenFault : {R : Type 0} → ParkOptions → List ℕ → (R → Option (List ℕ)) → Watched R → Watched R → CliFault → Type 0
IsGivenFault options stand remaining reader reader_after (Derivation e) = ⊥
IsGivenFault options stand remaining reader reader_after (Drvs e) = RefusesGiven options stand (remaining reader.device) (remaining reader_after.device) (Drvs e)
IsGivenFault options stand remaining reader reader_after (Builders e) = RefusesGiven options stand (remaining reader.device) (remaining reader_after.device) (Builders e)
IsGivenFault options stand remaining reader reader_after (Info e) = RefusesGiven options stand (remaining reader.device) (remaining reader_after.device) (Info e)
IsGivenFault options stand remaining reader reader_after (Script e) = ⊥
IsGivenFault options stand remaining reader reader_after (Stand e) = RefusesGiven options stand (remaining reader.device) (remaining reader_after.device) (Stand e)
IsGivenFault options stand remaining reader reader_after (History e) = ⊥
IsGivenFault options stand remaining reader reader_after (TooLarge place) = RefusesGiven options stand (remaining reader.device) (remaining reader_after.device) (TooLarge place)
IsGivenFault options stand remaining reader reader_after TooManySlots = ⊥
IsGivenFault options stand remaining reader reader_after Read = reader_after.is_marked ≡ true
IsGivenFault options stand remaining reader reader_after Write = ⊥
IsGivenFault options stand remaining reader reader_after Memory = Unit {0}
IsGivenFault options stand remaining reader reader_after Thread = ⊥
IsGivenFault options stand remaining reader reader_after Receipts = ⊥
