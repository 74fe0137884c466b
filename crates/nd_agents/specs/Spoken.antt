-- What was spoken with an agent over its life: the text that was written to it is that of the calls that are recorded, and what was
-- read of it is what they are recorded as answered with. Laws cite this. This project's own choice.
use Rattle.std.specs.Prelude.{◌≡◌, ◌⊎◌, ℕ, Bool, true, false, List, [], ◌∷◌, ◌++◌, length, Option}
use Rattle.std.specs.Io.KnownBytes.{Appends, Consumes}
use Rattle.std.specs.List.{All, AllZip, flat_map}
use Rattle.nd_devices.specs.Written.{WritesPart}
use Rattle.nd_keeping.specs.Listing.{Listed}
use Rattle.nd_ledger.specs.declared.job.Job.{Job}
use Rattle.nd_transports.specs.declared.kinds.Answer.{Answer}
use Rattle.nd_transports.specs.declared.kinds.Answer.TheVariants.{Lost, Memory}
use Rattle.nd_transports.specs.declared.kinds.Call.{Call}
use Rattle.nd_transports.specs.declared.kinds.Call.TheVariants.{Connect, Copy, Build}
use Rattle.nd_transports.specs.declared.kinds.Ended.{Ended}
use Rattle.nd_transports.specs.declared.kinds.Phase.TheVariants.{Idle, Prepared, Connected as HasConnected, Copied as HasCopied}
use Rattle.nd_transports.specs.Calls.{calls_of, IsIdleAgain, connected, copied}
use Rattle.nd_agents.specs.CallTexts.{line_with, connect_line, copy_line, build_line}
use Rattle.nd_agents.specs.AnswerTexts.{word, IsAnswerFor, IsListing}
use Rattle.nd_agents.specs.Heard.{IsPlain}
use Rattle.nd_agents.specs.Wires.{Wired, wired, AreGranted, IsAsked}
use Rattle.nd_agents.specs.Agents.{Agency, fresh, readied, AgentBuilds}

-- what derivations are called, by their numbers: their paths, and those of their outputs by name
pub record Naming : Type 0 where
  pub path : ℕ → List ℕ
  pub outputs : ℕ → List (List ℕ)

-- the line of a call
abbrev pub call_line : Naming → Call → List ℕ
call_line n (Connect answered) = connect_line
call_line n (Copy paths done) = copy_line paths
call_line n (Build drv answer) = build_line (n.path drv) (n.outputs drv)

-- the lines of calls, one behind the other
abbrev pub call_text : Naming → List Call → List ℕ
call_text n calls = flat_map (call_line n) calls

-- the lines of answers
abbrev pub answer_text : List (List ℕ) → List ℕ
answer_text lines = flat_map line_with lines

-- a build of so many outputs is recorded as this line, without its newline, answers it; or there was no memory for what it says
pub record IsBuildAnswered (outputs : ℕ) (line : List ℕ) (answer : Answer) : Type 0 where
  pub plain : IsPlain line
  pub either : IsAnswerFor outputs line answer ⊎ (IsListing line × (answer ≡ Memory))

-- a call is recorded as this line, without its newline, answers it
abbrev pub IsAnswered : Naming → Call → List ℕ → Type 0
IsAnswered n (Connect answered) line = line ≡ word answered
IsAnswered n (Copy paths done) line = line ≡ word done
IsAnswered n (Build drv answer) line = IsBuildAnswered (length (n.outputs drv)) line answer

-- a call is recorded as answered no, or its build as lost
abbrev pub IsDenied : Call → Type 0
IsDenied (Connect answered) = answered ≡ false
IsDenied (Copy paths done) = done ≡ false
IsDenied (Build drv answer) = answer ≡ Lost

-- .. or there was no memory for the line of its answer
abbrev pub IsUnanswered : Call → Type 0
IsUnanswered (Connect answered) = answered ≡ false
IsUnanswered (Copy paths done) = done ≡ false
IsUnanswered (Build drv answer) = (answer ≡ Lost) ⊎ (answer ≡ Memory)

-- each of these calls was written whole, and a line read that answers it, and no device refused
pub record AreExchanged {R W : Type 0} (n : Naming) (remaining : R → Option (List ℕ)) (contents : W → Option (List ℕ)) (start now : Wired R W) (calls : List Call) : Type 0 where
  pub lines : List (List ℕ)
  pub each : AllZip (IsAnswered n) calls lines
  pub written : Appends (contents start.calls.device) (contents now.calls.device) (call_text n calls)
  pub read : Consumes (remaining start.answers.device) (remaining now.answers.device) (answer_text lines)
  pub granted : AreGranted start now

-- The agent broke off in one of these calls. Each before it was written whole and answered by a line. Of its own line a part was written,
-- from its beginning, and all of it where no write was refused; of those since then nothing was. It and they are answered no, or lost,
-- but that there may have been no memory for the line of its answer.
pub record AreBrokenOff {R W : Type 0} (n : Naming) (remaining : R → Option (List ℕ)) (contents : W → Option (List ℕ)) (start now : Wired R W) (calls : List Call) : Type 0 where
  pub before : List Call
  pub last : Call
  pub since : List Call
  pub are : calls ≡ before ++ last ∷ since
  pub lines : List (List ℕ)
  pub each : AllZip (IsAnswered n) before lines
  pub part : List ℕ
  pub rest : List ℕ
  pub split : call_line n last ≡ part ++ rest
  pub whole : now.calls.is_marked ≡ false → rest ≡ []
  pub written : Appends (contents start.calls.device) (contents now.calls.device) (call_text n before ++ part)
  -- what the reader had left when it broke off
  pub left : Option (List ℕ)
  pub read : Consumes (remaining start.answers.device) left (answer_text lines)
  pub unanswered : IsUnanswered last
  pub denied : All IsDenied since

-- what was spoken from the beginning on, by whether the agent is gone
pub record IsSpoken {R W : Type 0} (n : Naming) (remaining : R → Option (List ℕ)) (contents : W → Option (List ℕ)) (start now : Wired R W) (calls : List Call) : Type 0 where
  pub here : now.is_gone ≡ false → AreExchanged n remaining contents start now calls
  pub gone : now.is_gone ≡ true → AreBrokenOff n remaining contents start now calls

-- a job has the path and the outputs that its derivation is called by
pub record IsCalled (n : Naming) (job : Job) : Type 0 where
  pub path : job.path ≡ n.path job.ticket.drv
  pub outputs : job.output_paths ≡ n.outputs job.ticket.drv

-- the line of a build is that of the derivation of the prepared job, and the number that of its outputs
pub record IsNamed {R W : Type 0} (n : Naming) (a : Agency R W) : Type 0 where
  pub call : a.build_call ≡ build_line (n.path a.state.job.ticket.drv) (n.outputs a.state.job.ticket.drv)
  pub outputs : a.outputs ≡ length (n.outputs a.state.job.ticket.drv)

-- an agent that was made of two devices, where each prepared job was of a derivation that is called so
pub record Lives {R W : Type 0} (n : Naming) (remaining : R → Option (List ℕ)) (contents : W → Option (List ℕ)) (answers : R) (calls : W) (a : Agency R W) : Type 0 where
  pub spoken : IsSpoken n remaining contents (wired answers calls) a.wire (calls_of a.state.deeds)
  pub named : (a.state.phase ≡ Idle → ⊥) → IsNamed n a

-- ---- the laws

-- nothing was spoken with a new agent
abbrev pub NewLives : {R W : Type 0} → (R → Option (List ℕ)) → (W → Option (List ℕ)) → Type 0
NewLives {R} {W} remaining contents = (n : Naming) (answers : R) (calls : W) → Lives n remaining contents answers calls (fresh answers calls)

-- .. and it goes on so where a job is prepared
abbrev pub PrepareLives : {R W : Type 0} → (R → Option (List ℕ)) → (W → Option (List ℕ)) → Type 0
PrepareLives {R} {W} remaining contents = (n : Naming) (answers : R) (calls : W) (a : Agency R W) (job : Job) → Lives n remaining contents answers calls a → IsCalled n job
    → Lives n remaining contents answers calls (readied a job)

-- .. where none could be
abbrev pub RefusedLives : {R W : Type 0} → (R → Option (List ℕ)) → (W → Option (List ℕ)) → Type 0
RefusedLives {R} {W} remaining contents = (n : Naming) (answers : R) (calls : W) (a b : Agency R W) → Lives n remaining contents answers calls a
    → IsIdleAgain a.state b.state → b.wire ≡ a.wire → Lives n remaining contents answers calls b

-- .. with a connect
abbrev pub ConnectLives : {R W : Type 0} → (R → Option (List ℕ)) → (W → Option (List ℕ)) → Type 0
ConnectLives {R} {W} remaining contents = (n : Naming) (answers : R) (calls : W) (a b : Agency R W) (by : Listed) (answered : Bool) → Lives n remaining contents answers calls a
    → a.state.phase ≡ Prepared → b.state ≡ connected a.state by answered → IsAsked remaining contents a.wire b.wire connect_line answered
    → b.build_call ≡ a.build_call → b.outputs ≡ a.outputs → Lives n remaining contents answers calls b

-- .. with a copy
abbrev pub CopyLives : {R W : Type 0} → (R → Option (List ℕ)) → (W → Option (List ℕ)) → Type 0
CopyLives {R} {W} remaining contents = (n : Naming) (answers : R) (calls : W) (a b : Agency R W) (by : Listed) (done : Bool) → Lives n remaining contents answers calls a
    → a.state.phase ≡ HasConnected → b.state ≡ copied a.state by done → IsAsked remaining contents a.wire b.wire (copy_line a.state.paths) done
    → b.build_call ≡ a.build_call → b.outputs ≡ a.outputs → Lives n remaining contents answers calls b

-- .. and with a build
abbrev pub BuildLives : {R W : Type 0} → (R → Option (List ℕ)) → (W → Option (List ℕ)) → Type 0
BuildLives {R} {W} remaining contents = (n : Naming) (answers : R) (calls : W) (a b : Agency R W) (by : Listed) (ended : Ended) → Lives n remaining contents answers calls a
    → a.state.phase ≡ HasCopied → AgentBuilds remaining contents a by ended b → Lives n remaining contents answers calls b

-- what was written over an agent's life is the text of its calls, from the beginning
abbrev pub LifeIsWritten : {R W : Type 0} → (R → Option (List ℕ)) → (W → Option (List ℕ)) → Type 0
LifeIsWritten {R} {W} remaining contents = (n : Naming) (answers : R) (calls : W) (a : Agency R W) → Lives n remaining contents answers calls a
    → WritesPart (contents calls) (contents a.wire.calls.device) (call_text n (calls_of a.state.deeds))
