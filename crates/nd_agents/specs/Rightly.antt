-- What a call comes to by what its agent's reader has left: a line that is an answer comes to that answer, and one that is none to a no
-- or to a lost build; want of memory is told as memory. And over an agent's life: the k-th line that is read answers the k-th call.
-- Laws cite this.
use Rattle.std.specs.Prelude.{◌≡◌, ◌≤◌, ◌⊎◌, ℕ, Bool, true, false, List, [], ◌++◌, length, Option, Some}
use Rattle.std.specs.List.{All, AllZip}
use Rattle.nd_transports.specs.Calls.{calls_of}
use Rattle.nd_transports.specs.declared.kinds.Answer.{Answer}
use Rattle.nd_transports.specs.declared.kinds.Answer.TheVariants.{Lost, Memory}
use Rattle.nd_agents.specs.CallTexts.{line_with}
use Rattle.nd_agents.specs.AnswerTexts.{word_line, IsAnswerFor, IsListing}
use Rattle.nd_agents.specs.Heard.{IsNeither, IsPlain, longest, HasNoLine}
use Rattle.nd_agents.specs.Wires.{Wired, IsAsked, IsBuildAsked}
use Rattle.nd_agents.specs.Agents.{Agency}
use Rattle.nd_agents.specs.Spoken.{Naming, IsAnswered, answer_text, Lives}

-- the agent was there, and no device refused
pub record IsUnhindered {R W : Type 0} (old new : Wired R W) : Type 0 where
  pub here : old.is_gone ≡ false
  pub calls : new.calls.is_marked ≡ false
  pub answers : new.answers.is_marked ≡ false

-- what is left to be read begins with this line, which is within the limit
pub record BeginsWith (known : Option (List ℕ)) (line more : List ℕ) : Type 0 where
  pub plain : IsPlain line
  pub within : length line ≤ longest
  pub is : known ≡ Some (line_with line ++ more)

-- the agent is there, and this is left to be read
pub record GoesOnBefore {R W : Type 0} (remaining : R → Option (List ℕ)) (new : Wired R W) (more : List ℕ) : Type 0 where
  pub here : new.is_gone ≡ false
  pub left : remaining new.answers.device ≡ Some more

-- there was no memory: for the line, and the agent is gone, or for the lists of one that begins as that of a build that ended with its
-- outputs, and the agent is there with what stands behind it
pub record IsWant {R W : Type 0} (remaining : R → Option (List ℕ)) (new : Wired R W) (line : List ℕ) (answer : Answer) (more : List ℕ) : Type 0 where
  pub memory : answer ≡ Memory
  pub either : (new.is_gone ≡ true) ⊎ (IsListing line × GoesOnBefore remaining new more)

-- the answer is the one that was given, and the agent is there with what stands behind the line
pub record IsSaid {R W : Type 0} (remaining : R → Option (List ℕ)) (new : Wired R W) (said answer : Answer) (more : List ℕ) : Type 0 where
  pub is : answer ≡ said
  pub on : GoesOnBefore remaining new more

-- the build is lost, and the agent is gone
pub record IsLostWith {R W : Type 0} (new : Wired R W) (answer : Answer) : Type 0 where
  pub lost : answer ≡ Lost
  pub gone : new.is_gone ≡ true

-- ---- the laws

-- a yes is a yes and a no is a no
abbrev pub WordsAreTold : {R W : Type 0} → (R → Option (List ℕ)) → (W → Option (List ℕ)) → Type 0
WordsAreTold {R} {W} remaining contents = (old new : Wired R W) (call more : List ℕ) (said answered : Bool) → IsAsked remaining contents old new call answered
    → IsUnhindered old new → remaining old.answers.device ≡ Some (word_line said ++ more) → (answered ≡ said) × GoesOnBefore remaining new more

-- what is neither comes to a no, and the agent is gone
abbrev pub OthersAreRefused : {R W : Type 0} → (R → Option (List ℕ)) → (W → Option (List ℕ)) → Type 0
OthersAreRefused {R} {W} remaining contents = (old new : Wired R W) (call text : List ℕ) (answered : Bool) → IsAsked remaining contents old new call answered
    → IsUnhindered old new → remaining old.answers.device ≡ Some text → IsNeither (Some text) → (answered ≡ false) × (new.is_gone ≡ true)

-- a line that answers a build of so many outputs comes to that answer, or there was no memory
abbrev pub AnswersAreTold : {R W : Type 0} → (R → Option (List ℕ)) → (W → Option (List ℕ)) → Type 0
AnswersAreTold {R} {W} remaining contents = (old new : Wired R W) (outputs : ℕ) (call line more : List ℕ) (said answer : Answer)
    → IsBuildAsked remaining contents outputs old new call answer → IsUnhindered old new → BeginsWith (remaining old.answers.device) line more
    → IsAnswerFor outputs line said → IsSaid remaining new said answer more ⊎ IsWant remaining new line answer more

-- a line that answers none is a lost build and the agent is gone, or there was no memory
abbrev pub OthersAreLost : {R W : Type 0} → (R → Option (List ℕ)) → (W → Option (List ℕ)) → Type 0
OthersAreLost {R} {W} remaining contents = (old new : Wired R W) (outputs : ℕ) (call line more : List ℕ) (answer : Answer)
    → IsBuildAsked remaining contents outputs old new call answer → IsUnhindered old new → BeginsWith (remaining old.answers.device) line more
    → ((said : Answer) → IsAnswerFor outputs line said → ⊥) → IsLostWith new answer ⊎ IsWant remaining new line answer more

-- where there is no line within the limit the agent is gone, and the build is lost, or there was no memory
abbrev pub NoLineIsLost : {R W : Type 0} → (R → Option (List ℕ)) → (W → Option (List ℕ)) → Type 0
NoLineIsLost {R} {W} remaining contents = (old new : Wired R W) (outputs : ℕ) (call text : List ℕ) (answer : Answer)
    → IsBuildAsked remaining contents outputs old new call answer → IsUnhindered old new → remaining old.answers.device ≡ Some text
    → HasNoLine (Some text) → (new.is_gone ≡ true) × ((answer ≡ Lost) ⊎ (answer ≡ Memory))

-- .. and where there is nothing at all the build is lost
abbrev pub EndIsLost : {R W : Type 0} → (R → Option (List ℕ)) → (W → Option (List ℕ)) → Type 0
EndIsLost {R} {W} remaining contents = (old new : Wired R W) (outputs : ℕ) (call : List ℕ) (answer : Answer) → IsBuildAsked remaining contents outputs old new call answer
    → IsUnhindered old new → remaining old.answers.device ≡ Some [] → IsLostWith new answer

-- over an agent's life, as long as it is there: where as many lines stood before the reader as there were calls, each answers the call
-- at its place, and what stood behind them is left
abbrev pub LinesAnswerInTurn : {R W : Type 0} → (R → Option (List ℕ)) → (W → Option (List ℕ)) → Type 0
LinesAnswerInTurn {R} {W} remaining contents = (n : Naming) (answers : R) (calls : W) (a : Agency R W) (lines : List (List ℕ)) (more : List ℕ)
    → Lives n remaining contents answers calls a → a.wire.is_gone ≡ false → length lines ≡ length (calls_of a.state.deeds) → All IsPlain lines
    → remaining answers ≡ Some (answer_text lines ++ more) → AllZip (IsAnswered n) (calls_of a.state.deeds) lines × (remaining a.wire.answers.device ≡ Some more)
