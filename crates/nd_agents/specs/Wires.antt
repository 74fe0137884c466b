-- What a call of an agent does to the two devices between it and its caller: one line is written, and one is read.
-- Public clauses cite this.
use Rattle.std.specs.Prelude.{◌≡◌, ◌≤◌, ◌⊎◌, ℕ, Bool, true, false, List, [], ◌++◌, length, Option}
use Rattle.std.specs.Io.KnownBytes.{Appends, Consumes}
use Rattle.nd_devices.specs.Watched.{Watched}
use Rattle.nd_transports.specs.declared.kinds.Answer.{Answer}
use Rattle.nd_transports.specs.declared.kinds.Answer.TheVariants.{Lost, Memory}
use Rattle.nd_agents.specs.CallTexts.{line_with}
use Rattle.nd_agents.specs.AnswerTexts.{word_line, IsAnswerFor, IsListing}
use Rattle.nd_agents.specs.Heard.{IsNeither, IsPlain, longest, ReadsLine, HasNoLine, ReadsOpening}

-- the way to an agent: the reader of its answers, the writer of its calls, and whether it is gone
pub record Wired (R W : Type 0) : Type 0 where
  pub answers : Watched R
  pub calls : Watched W
  pub is_gone : Bool

-- an agent that is there, with which nothing was spoken yet
abbrev pub wired : {R W : Type 0} → R → W → Wired R W
wired answers calls = record {
  answers = record { device = answers; is_marked = false };
  calls = record { device = calls; is_marked = false };
  is_gone = false;
}

-- neither device refused meanwhile
pub record AreGranted {R W : Type 0} (old new : Wired R W) : Type 0 where
  pub calls : new.calls.is_marked ≡ old.calls.is_marked
  pub answers : new.answers.is_marked ≡ old.answers.is_marked

-- the line of the call was written whole, and then this line read, and neither device refused; the agent is there
pub record Exchanges {R W : Type 0} (remaining : R → Option (List ℕ)) (contents : W → Option (List ℕ)) (old new : Wired R W) (call answer : List ℕ) : Type 0 where
  pub written : Appends (contents old.calls.device) (contents new.calls.device) call
  pub read : Consumes (remaining old.answers.device) (remaining new.answers.device) answer
  pub granted : AreGranted old new
  pub here : new.is_gone ≡ false

-- Of the line of the call a part was written, from its beginning, and all of it where no write was refused; the agent is gone.
pub record BreaksOff {R W : Type 0} (contents : W → Option (List ℕ)) (old new : Wired R W) (call : List ℕ) : Type 0 where
  pub part : List ℕ
  pub rest : List ℕ
  pub split : call ≡ part ++ rest
  pub written : Appends (contents old.calls.device) (contents new.calls.device) part
  pub whole : new.calls.is_marked ≡ false → rest ≡ []
  pub gone : new.is_gone ≡ true

-- why there is neither a yes nor a no: a device refused and is marked, or what the reader had left begins with neither
abbrev pub HasNoWord : {R W : Type 0} → (R → Option (List ℕ)) → Wired R W → Wired R W → Type 0
HasNoWord remaining old new = (new.calls.is_marked ≡ true) ⊎ (new.answers.is_marked ≡ true) ⊎ IsNeither (remaining old.answers.device)

-- the answer is no, since the agent broke off
pub record IsUnworded {R W : Type 0} (remaining : R → Option (List ℕ)) (contents : W → Option (List ℕ)) (old new : Wired R W) (call : List ℕ) (answered : Bool) : Type 0 where
  pub no : answered ≡ false
  pub broken : BreaksOff contents old new call
  pub cause : HasNoWord remaining old new

-- What a call comes to that wants a yes or a no. An agent that is gone isn't called. Else the answer is the line that was read, or
-- it is no and the agent is gone.
pub record IsAsked {R W : Type 0} (remaining : R → Option (List ℕ)) (contents : W → Option (List ℕ)) (old new : Wired R W) (call : List ℕ) (answered : Bool) : Type 0 where
  pub gone : old.is_gone ≡ true → (answered ≡ false) × (new ≡ old)
  pub here : old.is_gone ≡ false → Exchanges remaining contents old new call (word_line answered) ⊎ IsUnworded remaining contents old new call answered

-- the answer to a build of so many outputs is what the line that was read says, which is within the limit
pub record IsToldBy {R W : Type 0} (remaining : R → Option (List ℕ)) (contents : W → Option (List ℕ)) (outputs : ℕ) (old new : Wired R W) (call : List ℕ) (answer : Answer) : Type 0 where
  pub line : List ℕ
  pub plain : IsPlain line
  pub within : length line ≤ longest
  pub says : IsAnswerFor outputs line answer
  pub exchanged : Exchanges remaining contents old new call (line_with line)

-- there was no memory for what the line says that was read, which is within the limit and begins as that of a build that ended with its
-- outputs; the agent is there
pub record IsForgotten {R W : Type 0} (remaining : R → Option (List ℕ)) (contents : W → Option (List ℕ)) (old new : Wired R W) (call : List ℕ) (answer : Answer) : Type 0 where
  pub line : List ℕ
  pub plain : IsPlain line
  pub within : length line ≤ longest
  pub listing : IsListing line
  pub memory : answer ≡ Memory
  pub exchanged : Exchanges remaining contents old new call (line_with line)

-- the line that was read is no answer to a build of so many outputs
pub record IsNoAnswer (outputs : ℕ) (old new : Option (List ℕ)) : Type 0 where
  pub line : List ℕ
  pub read : ReadsLine old new line
  pub never : (answer : Answer) → IsAnswerFor outputs line answer → ⊥

-- Why a build is lost with its agent: a write was refused; or a read; or what the reader had left begins with no line within the
-- limit; or the line that was read is no answer.
abbrev pub HasNoAnswer : {R W : Type 0} → (R → Option (List ℕ)) → ℕ → Wired R W → Wired R W → Type 0
HasNoAnswer remaining outputs old new =
    (new.calls.is_marked ≡ true)
    ⊎ (new.answers.is_marked ≡ true)
    ⊎ HasNoLine (remaining old.answers.device)
    ⊎ IsNoAnswer outputs (remaining old.answers.device) (remaining new.answers.device)

-- the build is lost since the agent broke off
pub record IsBroken {R W : Type 0} (remaining : R → Option (List ℕ)) (contents : W → Option (List ℕ)) (outputs : ℕ) (old new : Wired R W) (call : List ℕ) (answer : Answer) : Type 0 where
  pub lost : answer ≡ Lost
  pub broken : BreaksOff contents old new call
  pub cause : HasNoAnswer remaining outputs old new

-- There was no memory for the line: of it a beginning was read, and neither device refused; the agent is gone, since the rest would be taken for the answer to
-- the next call.
pub record IsCutShort {R W : Type 0} (remaining : R → Option (List ℕ)) (contents : W → Option (List ℕ)) (old new : Wired R W) (call : List ℕ) (answer : Answer) : Type 0 where
  pub memory : answer ≡ Memory
  pub written : Appends (contents old.calls.device) (contents new.calls.device) call
  pub read : ReadsOpening (remaining old.answers.device) (remaining new.answers.device)
  pub granted : AreGranted old new
  pub gone : new.is_gone ≡ true

-- What the call of a build of so many outputs comes to. An agent that is gone isn't called, and the build is lost. Else the answer is
-- what the line that was read says; or there was no memory for what it says; or the build is lost for one of the causes of that, and
-- the agent is gone; or there was no memory for the line, and the agent is gone.
pub record IsBuildAsked {R W : Type 0} (remaining : R → Option (List ℕ)) (contents : W → Option (List ℕ)) (outputs : ℕ) (old new : Wired R W) (call : List ℕ) (answer : Answer) : Type 0 where
  pub gone : old.is_gone ≡ true → (answer ≡ Lost) × (new ≡ old)
  pub here : old.is_gone ≡ false
      → IsToldBy remaining contents outputs old new call answer ⊎ IsForgotten remaining contents old new call answer ⊎ IsBroken remaining contents outputs old new call answer
      ⊎ IsCutShort remaining contents old new call answer
