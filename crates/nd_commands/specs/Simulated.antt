-- What `sim` answers: the simulation of the script over the bundle that was read. The clauses of `sim_engine` cite this, but for
-- `IsSimGiven` and `IsSimAccepted`, which serve private ones.
use Rattle.std.specs.Prelude.{◌≡◌, ◌⊎◌, ℕ, Bool, true, false, List, [], Option, Some, Result, MatchResult}
use Rattle.nd_history.specs.Premises.{Premises}
use Rattle.nd_devices.specs.Watched.{Watched}
use Rattle.nd_ledger.specs.Worlds.{World}
use Rattle.nd_script.specs.declared.command.Command.{Command}
use Rattle.nd_cli.specs.Asked.{RefusesPark}
use Rattle.nd_cli.specs.declared.options.ParkOptions.{ParkOptions}
use Rattle.nd_cli.specs.declared.fault.CliFault.{CliFault}
use Rattle.nd_cli.specs.declared.fault.CliFault.TheVariants.{Derivation, Drvs, Builders, Info, Script, Stand, History, TooLarge, TooManySlots, Read, Write, Memory, Thread, Receipts}
use Rattle.nd_sim.specs.Written.{WritesSimulation, WritesSimulationPart}
use Rattle.nd_commands.specs.Opened.{HasInputs, ReadsInputs}
use Rattle.nd_commands.specs.Scripts.{HasScript, IsScriptFault}
use Rattle.nd_commands.specs.declared.reading.SimInputs.{SimInputs}

-- the inputs are accepted: a dispatch over them, with the empty history, and the commands of the script
pub record IsSimGiven {R : Type 0} (options : ParkOptions) (script : List ℕ) (remaining : R → Option (List ℕ)) (reader reader_after : Watched R) (dispatch : World) (commands : List Command) : Type 0 where
  pub reads : ReadsInputs options (remaining reader.device) (remaining reader_after.device) dispatch.inputs
  pub empty : dispatch.history ≡ []
  pub says : HasScript dispatch.inputs script commands

-- each input is accepted
pub record IsSimAccepted (options : ParkOptions) (text script : List ℕ) : Type 0 where
  pub inputs : Premises
  pub has : HasInputs options text inputs
  pub commands : List Command
  pub says : HasScript inputs script commands

-- the inputs are accepted, and the simulation was written
pub record AnswersSim {R W : Type 0} (options : ParkOptions) (script : List ℕ) (status : ℕ) (remaining : R → Option (List ℕ)) (reader reader_after : Watched R) (contents : W → Option (List ℕ)) (writer writer_after : Watched W) : Type 0 where
  pub inputs : Premises
  pub reads : ReadsInputs options (remaining reader.device) (remaining reader_after.device) inputs
  pub commands : List Command
  pub says : HasScript inputs script commands
  pub simulated : WritesSimulation inputs commands status (contents writer.device) (contents writer_after.device)

-- .. or its beginning
pub record AnswersSimInPart {R W : Type 0} (options : ParkOptions) (script : List ℕ) (remaining : R → Option (List ℕ)) (reader reader_after : Watched R) (contents : W → Option (List ℕ)) (writer writer_after : Watched W) : Type 0 where
  pub inputs : Premises
  pub reads : ReadsInputs options (remaining reader.device) (remaining reader_after.device) inputs
  pub commands : List Command
  pub says : HasScript inputs script commands
  pub begun : WritesSimulationPart inputs commands (contents writer.device) (contents writer_after.device)

-- the bundle and the park are accepted, and the script is refused for this reason
pub record RefusesScript (options : ParkOptions) (script : List ℕ) (unread left : Option (List ℕ)) (fault : CliFault) : Type 0 where
  pub inputs : Premises
  pub reads : ReadsInputs options unread left inputs
  pub refused : IsScriptFault inputs script fault

-- an input is refused
abbrev pub RefusesSim : ParkOptions → List ℕ → Option (List ℕ) → Option (List ℕ) → CliFault → Type 0
RefusesSim options script unread left fault = RefusesPark options unread left fault ⊎ RefusesScript options script unread left fault

-- Why there is no answer: an input is refused, a device failed and is marked, or memory ran out.
abbrev pub IsSimFault : {R : Type 0} → ParkOptions → List ℕ → (R → Option (List ℕ)) → Watched R → Watched R → Bool → CliFault → Type 0
IsSimFault options script remaining reader reader_after writer_marked (Derivation e) = ⊥
IsSimFault options script remaining reader reader_after writer_marked (Drvs e) = RefusesPark options (remaining reader.device) (remaining reader_after.device) (Drvs e)
IsSimFault options script remaining reader reader_after writer_marked (Builders e) = RefusesPark options (remaining reader.device) (remaining reader_after.device) (Builders e)
IsSimFault options script remaining reader reader_after writer_marked (Info e) = RefusesPark options (remaining reader.device) (remaining reader_after.device) (Info e)
IsSimFault options script remaining reader reader_after writer_marked (Script e) = RefusesScript options script (remaining reader.device) (remaining reader_after.device) (Script e)
IsSimFault options script remaining reader reader_after writer_marked (History e) = ⊥
IsSimFault options script remaining reader reader_after writer_marked (Stand e) = ⊥
IsSimFault options script remaining reader reader_after writer_marked (TooLarge place) = RefusesSim options script (remaining reader.device) (remaining reader_after.device) (TooLarge place)
IsSimFault options script remaining reader reader_after writer_marked TooManySlots = ⊥
IsSimFault options script remaining reader reader_after writer_marked Read = reader_after.is_marked ≡ true
IsSimFault options script remaining reader reader_after writer_marked Write = writer_marked ≡ true
IsSimFault options script remaining reader reader_after writer_marked Memory = Unit {0}
IsSimFault options script remaining reader reader_after writer_marked Thread = ⊥
IsSimFault options script remaining reader reader_after writer_marked Receipts = ⊥

-- a simulation may have begun
abbrev pub may_have_begun : CliFault → Bool
may_have_begun Write = true
may_have_begun Memory = true
may_have_begun _ = false

-- what a fault leaves where a simulation may have begun: nothing was written, or its beginning
abbrev pub LeavesSim : {R W : Type 0} → ParkOptions → List ℕ → (R → Option (List ℕ)) → Watched R → Watched R → (W → Option (List ℕ)) → Watched W → Watched W → CliFault → Type 0
LeavesSim options script remaining reader reader_after contents writer writer_after e =
    may_have_begun e ≡ true → (contents writer_after.device ≡ contents writer.device) ⊎ AnswersSimInPart options script remaining reader reader_after contents writer writer_after

-- what these commands do on a dispatch over these inputs, was written, and the answer is this status
abbrev pub Simulates : {W : Type 0} → Premises → List Command → ℕ → (W → Option (List ℕ)) → Watched W → Watched W → Type 0
Simulates i commands status contents writer writer_after = WritesSimulation i commands status (contents writer.device) (contents writer_after.device)

-- .. or its beginning
abbrev pub SimulatesPart : {W : Type 0} → Premises → List Command → (W → Option (List ℕ)) → Watched W → Watched W → Type 0
SimulatesPart i commands contents writer writer_after = WritesSimulationPart i commands (contents writer.device) (contents writer_after.device)

-- what the commands that were given do on the dispatch that was given, was written
abbrev pub WritesGiven : {W : Type 0} → SimInputs → ℕ → (W → Option (List ℕ)) → Watched W → Watched W → Type 0
WritesGiven given status contents writer writer_after = Simulates given.dispatch.inputs given.commands.items status contents writer writer_after

-- .. or its beginning
abbrev pub WritesGivenPart : {W : Type 0} → SimInputs → (W → Option (List ℕ)) → Watched W → Watched W → Type 0
WritesGivenPart given contents writer writer_after = SimulatesPart given.dispatch.inputs given.commands.items contents writer writer_after

-- ---- accepted inputs

-- the bundle with this text and the park of the options make these five inputs, and the script says these commands for them
pub record AcceptsSim (options : ParkOptions) (script text : List ℕ) (i : Premises) (commands : List Command) : Type 0 where
  pub has : HasInputs options text i
  pub says : HasScript i script commands

-- a device failed, or memory ran out: no input is refused
abbrev pub IsNoRefusal : CliFault → Type 0
IsNoRefusal Read = Unit {0}
IsNoRefusal Write = Unit {0}
IsNoRefusal Memory = Unit {0}
IsNoRefusal _ = ⊥

-- where the inputs are accepted the answer is the status of their simulation, which was written, unless a device failed or memory ran
-- out
pub record AnswersAccepted {R W : Type 0} (options : ParkOptions) (script : List ℕ) (remaining : R → Option (List ℕ)) (reader : Watched R) (contents : W → Option (List ℕ)) (writer writer_after : Watched W) (answer : Result ℕ CliFault) : Type 0 where
  pub each : (text : List ℕ) (i : Premises) (commands : List Command) → remaining reader.device ≡ Some text → AcceptsSim options script text i commands
      → MatchResult answer (λ status. WritesSimulation i commands status (contents writer.device) (contents writer_after.device)) IsNoRefusal
