-- What an agent is seen as, and what its calls do to it. The clauses of `Agent` cite these definitions. This project's own choice.
use Rattle.std.specs.Prelude.{◌≡◌, ℕ, Bool, true, false, List, [], length, Option}
use Rattle.nd_keeping.specs.Listing.{Listed}
use Rattle.nd_ledger.specs.declared.job.Job.{Job}
use Rattle.nd_transports.specs.declared.kinds.Answer.{Answer}
use Rattle.nd_transports.specs.declared.kinds.Ended.{Ended}
use Rattle.nd_transports.specs.declared.kinds.Phase.{Phase}
use Rattle.nd_transports.specs.declared.kinds.Phase.TheVariants.{Idle, Prepared, Connected, Copied}
use Rattle.nd_transports.specs.Answers.{ended_of}
use Rattle.nd_transports.specs.Calls.{State, unused, prepared, built}
use Rattle.nd_agents.specs.CallTexts.{copy_line, build_line}
use Rattle.nd_agents.specs.Wires.{Wired, wired, IsBuildAsked}

pub record Agency (R W : Type 0) : Type 0 where
  -- the transport that it is
  pub state : State
  -- the line by which the prepared job's derivation is built
  pub build_call : List ℕ
  -- the number of its outputs
  pub outputs : ℕ
  -- the way to it
  pub wire : Wired R W

-- an agent that is there, with nothing prepared or called
abbrev pub fresh : {R W : Type 0} → R → W → Agency R W
fresh answers calls = record { state = unused; build_call = []; outputs = 0; wire = wired answers calls }

-- a job was prepared, and nothing was written or read
abbrev pub readied : {R W : Type 0} → Agency R W → Job → Agency R W
readied a job = record { state = prepared a.state job; build_call = build_line job.path job.output_paths; outputs = length job.output_paths; wire = a.wire }

-- a build with that answer
pub record AgentBuilds {R W : Type 0} (remaining : R → Option (List ℕ)) (contents : W → Option (List ℕ)) (a : Agency R W) (by : Listed) (ended : Ended) (b : Agency R W) : Type 0 where
  pub answer : Answer
  pub told : ended ≡ ended_of answer
  pub asked : IsBuildAsked remaining contents a.outputs a.wire b.wire a.build_call answer
  pub after : b.state ≡ built a.state by answer

-- ---- how an agent is stored: its view and its invariant, for proofs alone

-- what was not made ready stands idle
abbrev pub standing : Bool → State → State
standing true s = s
standing false s = record s { phase = Idle }

-- the line by which the prepared job's paths are copied, until they were
abbrev pub IsCopyCall : Phase → List (List ℕ) → List ℕ → Type 0
IsCopyCall Idle paths call = Unit {0}
IsCopyCall Prepared paths call = call ≡ copy_line paths
IsCopyCall Connected paths call = call ≡ copy_line paths
IsCopyCall Copied paths call = Unit {0}

abbrev pub IsFitted : Bool → State → List ℕ → Type 0
IsFitted true s call = IsCopyCall s.phase s.paths call
IsFitted false s call = Unit {0}
