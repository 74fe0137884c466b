-- What a transport is seen as, and what each call does to it. The clauses of `Transport`, `CallLog` and `LastCall` cite these
-- definitions. This project's own choice.
use Rattle.std.specs.Prelude.{◌≡◌, ℕ, Bool, List, [], ◌∷◌, ◌++◌, map, if◌then◌else◌}
use Rattle.nd_keeping.specs.Listing.{Listed}
use Rattle.nd_ledger.specs.declared.job.Job.{Job}
use Rattle.nd_transports.specs.declared.kinds.Answer.{Answer}
use Rattle.nd_transports.specs.declared.kinds.Answer.TheVariants.{Built}
use Rattle.nd_transports.specs.declared.kinds.Call.{Call}
use Rattle.nd_transports.specs.declared.kinds.Call.TheVariants.{Connect, Copy, Build}
use Rattle.nd_transports.specs.declared.kinds.Ended.{Ended}
use Rattle.nd_transports.specs.declared.kinds.Phase.{Phase}
use Rattle.nd_transports.specs.declared.kinds.Phase.TheVariants.{Idle, Prepared, Connected, Copied}
use Rattle.nd_transports.specs.Answers.{ended_of}

-- a call with its answer, the job that it was made for, and what was durable of the run's history when it was made
pub record Deed : Type 0 where
  pub call : Call
  pub job : Job
  pub by : Listed

pub record State : Type 0 where
  pub phase : Phase
  -- the job that was prepared last
  pub job : Job
  -- the paths of that job, until they are handed to the machine
  pub paths : List (List ℕ)
  -- the calls so far, oldest first
  pub deeds : List Deed

-- the calls with their answers alone
abbrev pub calls_of : List Deed → List Call
calls_of deeds = map (λ x. x.call) deeds

-- no lease's job
abbrev pub no_job : Job
no_job = record { ticket = record { machine = 0; slot = 0; drv = 0; serial = 0 }; path = []; output_paths = []; paths = [] }

-- nothing was prepared or called yet
abbrev pub unused : State
unused = record { phase = Idle; job = no_job; paths = []; deeds = [] }

-- a job was prepared
abbrev pub prepared : State → Job → State
prepared s job = record { phase = Prepared; job = job; paths = job.paths; deeds = s.deeds }

-- no job was prepared
pub record IsIdleAgain (s t : State) : Type 0 where
  pub phase : t.phase ≡ Idle
  pub deeds : t.deeds ≡ s.deeds

-- a call for this job, by what was durable
abbrev pub deed_for : Job → Listed → Call → Deed
deed_for job by call = record { call = call; job = job; by = by }

-- .. for the prepared one
abbrev pub deed_of : State → Listed → Call → Deed
deed_of s by call = deed_for s.job by call

-- the machine was called
abbrev pub connected : State → Listed → Bool → State
connected s by answered = record { phase = if answered then Connected else Idle; job = s.job; paths = s.paths; deeds = s.deeds ++ deed_of s by (Connect answered) ∷ [] }

-- the paths were handed to the machine
abbrev pub copied : State → Listed → Bool → State
copied s by done = record { phase = if done then Copied else Idle; job = s.job; paths = []; deeds = s.deeds ++ deed_of s by (Copy s.paths done) ∷ [] }

-- the derivation was to be built
abbrev pub built : State → Listed → Answer → State
built s by answer = record { phase = Idle; job = s.job; paths = s.paths; deeds = s.deeds ++ deed_of s by (Build s.job.ticket.drv answer) ∷ [] }

-- .. and this is how the build ended
pub record Builds (s : State) (by : Listed) (ended : Ended) (t : State) : Type 0 where
  pub answer : Answer
  pub told : ended ≡ ended_of answer
  pub after : t ≡ built s by answer

-- the last call is a build that ended with these references
pub record Reports (s : State) (refs : List (List (List ℕ))) : Type 0 where
  pub earlier : List Deed
  pub last : Deed
  pub drv : ℕ
  pub at : s.deeds ≡ earlier ++ last ∷ []
  pub is : last.call ≡ Build drv (Built refs)
