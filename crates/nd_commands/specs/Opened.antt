-- The dispatch over what a command was given. The engines' clauses cite this, but for `AnswersKnownInputs`, which those of
-- `take_dispatch` cite, and `IsMadeOf`, which serves a private one.
use Rattle.std.specs.Prelude.{◌≡◌, ◌||◌, ℕ, ◌≤◌, Bool, false, List, [], length, Option, Some, Result, MatchResult, IfOk, IfErr}
use Rattle.nd_machines.specs.Builders.{Builder}
use Rattle.nd_eligible.specs.Settings.{Settings}
use Rattle.nd_graph.specs.Graphs.{Nodes}
use Rattle.nd_devices.specs.Watched.{Watched}
use Rattle.nd_history.specs.Premises.{Premises, premises}
use Rattle.nd_ledger.specs.Worlds.{World}
use Rattle.nd_cli.specs.Asked.{IsAskFault, ReadsPark}
use Rattle.nd_cli.specs.Blocks.{AnswersKnownPark}
use Rattle.nd_cli.specs.Inputs.{ReadsWhole, is_read_failure}
use Rattle.nd_cli.specs.Parks.{HasPark, local_of}
use Rattle.nd_cli.specs.Statuses.{exit_status}
use Rattle.nd_cli.specs.declared.fault.CliFault.{CliFault}
use Rattle.nd_cli.specs.declared.options.ParkOptions.{ParkOptions}
use Rattle.nd_cli.specs.declared.park.Park.{Park}

-- the five inputs of a dispatch over these derivations, machines and references
abbrev pub inputs_of : ParkOptions → Nodes → List Builder → Settings → List (List ℕ × List (List ℕ)) → Premises
inputs_of options graph machines local info = premises graph machines local info options.keep_going

-- the five inputs of a dispatch over this park
abbrev pub park_inputs : Park → Bool → Premises
park_inputs park keep_going = premises park.graph park.machines.items park.local park.info.entries keep_going

-- the five inputs that the bundle and the options describe
pub record HasInputs (options : ParkOptions) (text : List ℕ) (i : Premises) : Type 0 where
  pub park : HasPark options text i.graph i.machines i.info
  pub local : i.local ≡ local_of options
  pub keep_going : i.keep_going ≡ options.keep_going

-- a dispatch over this park with the empty history
pub record IsMadeOf (options : ParkOptions) (park : Park) (dispatch : World) : Type 0 where
  pub inputs : dispatch.inputs ≡ park_inputs park options.keep_going
  pub empty : dispatch.history ≡ []

-- where an input that is known is accepted, with the other inputs, the answer is a dispatch over them, unless the reader or the memory
-- fails
abbrev pub AnswersKnownInputs : ParkOptions → Option (List ℕ) → Result World CliFault → Type 0
AnswersKnownInputs options unread answer =
    (text : List ℕ) (inputs : Premises) → unread ≡ Some text → HasInputs options text inputs → MatchResult answer (λ dispatch. dispatch.inputs ≡ inputs) (λ e. exit_status e ≡ 5)

-- the whole input was read, and these are the five inputs
pub record ReadsInputs (options : ParkOptions) (unread left : Option (List ℕ)) (i : Premises) : Type 0 where
  pub text : List ℕ
  pub read : ReadsWhole unread left text
  pub has : HasInputs options text i

-- .. of this reader, and they are those of this park
abbrev pub IsParkGiven : {R : Type 0} → ParkOptions → (R → Option (List ℕ)) → Watched R → Watched R → Park → Type 0
IsParkGiven options remaining reader reader_after park = ReadsInputs options (remaining reader.device) (remaining reader_after.device) (park_inputs park options.keep_going)

-- what reading the bundle on the input and what the options name answers, and what it leaves of the reader; this serves private clauses
pub record IsParkTaken {R : Type 0} (options : ParkOptions) (remaining : R → Option (List ℕ)) (reader reader_after : Watched R) (answer : Result Park CliFault) : Type 0 where
  pub read : IfOk answer (λ park. ReadsPark options (remaining reader.device) (remaining reader_after.device) park.graph park.machines.items park.info.entries)
  pub local : IfOk answer (λ park. park.local ≡ local_of options)
  pub few : IfOk answer (λ park. length park.machines.items ≤ 1024)
  pub fault : IfErr answer (IsAskFault options remaining reader reader_after false)
  pub mark : reader_after.is_marked ≡ (reader.is_marked || is_read_failure answer)
  pub exactly : AnswersKnownPark options (remaining reader.device) answer
