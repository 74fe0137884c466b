-- What serving a lease does to its transport: the calls that stand behind each answer. The clauses of `serve_copy` and
-- `serve_build` cite these definitions. This project's own choice.
use Rattle.std.specs.Prelude.{◌≡◌, ℕ, true, false, List, [], ◌∷◌, ◌++◌, ◌⊎◌, map}
use Rattle.nd_keeping.specs.Listing.{Listed}
use Rattle.nd_ledger.specs.declared.job.Job.{Job}
use Rattle.nd_transports.specs.declared.kinds.Answer.{Answer}
use Rattle.nd_transports.specs.declared.kinds.Answer.TheVariants.{Built, Status, Lost, Memory as AnswerMemory}
use Rattle.nd_transports.specs.declared.kinds.Call.{Call}
use Rattle.nd_transports.specs.declared.kinds.Call.TheVariants.{Connect, Copy}
use Rattle.nd_transports.specs.declared.kinds.Phase.TheVariants.{Copied as HasCopied, Idle}
use Rattle.nd_transports.specs.declared.serving.Fetch.{Fetch}
use Rattle.nd_transports.specs.declared.serving.Fetch.TheVariants.{Copied, Refused, Memory}
use Rattle.nd_transports.specs.declared.serving.Outcome.{Outcome}
use Rattle.nd_transports.specs.declared.serving.Outcome.TheVariants.{Built as OutcomeBuilt, Status as OutcomeStatus, Lost as OutcomeLost, Memory as OutcomeMemory}
use Rattle.nd_transports.specs.Calls.{State, Deed, IsIdleAgain, deed_for, built}

-- the calls of a copy for this job, by what was durable
abbrev pub fetching : Job → Listed → List Call → List Deed
fetching job by calls = map (deed_for job by) calls

-- the machine was reached, and the paths were copied to it
pub record IsFetched (s : State) (job : Job) (by : Listed) (t : State) : Type 0 where
  pub phase : t.phase ≡ HasCopied
  pub prepared : t.job ≡ job
  pub deeds : t.deeds ≡ s.deeds ++ fetching job by (Connect true ∷ Copy job.paths true ∷ [])

-- the machine could not be reached, which is one call, or else the copy failed, which is the second
pub record IsTurnedAway (s : State) (job : Job) (by : Listed) (n : ℕ) (t : State) : Type 0 where
  pub phase : t.phase ≡ Idle
  pub either : ((n ≡ 1) × (t.deeds ≡ s.deeds ++ fetching job by (Connect false ∷ []))) ⊎ ((n ≡ 2) × (t.deeds ≡ s.deeds ++ fetching job by (Connect true ∷ Copy job.paths false ∷ [])))

-- each answer of a copy comes after its calls alone
abbrev pub Fetches : State → Job → Listed → Fetch → State → Type 0
Fetches s job by Copied t = IsFetched s job by t
Fetches s job by (Refused n) t = IsTurnedAway s job by n t
Fetches s job by Memory t = IsIdleAgain s t

-- a build for which no memory was found: for the references of its outputs, with which it ended, or for what the
-- transport was answered
pub record IsShort (s : State) (by : Listed) (t : State) : Type 0 where
  pub answer : Answer
  pub either : ((refs : List (List (List ℕ))) × (answer ≡ Built refs)) ⊎ (answer ≡ AnswerMemory)
  pub after : t ≡ built s by answer

-- a build is one call, of which the outcome is the answer
abbrev pub Serves : State → Listed → Outcome → State → Type 0
Serves s by (OutcomeBuilt refs) t = t ≡ built s by (Built refs)
Serves s by (OutcomeStatus code) t = t ≡ built s by (Status code)
Serves s by OutcomeLost t = t ≡ built s by Lost
Serves s by OutcomeMemory t = IsShort s by t
