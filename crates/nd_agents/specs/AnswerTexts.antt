-- What an agent's answers say. A connect and a copy are answered yes or no; a build by how it ended, where the references stand in
-- the form that scripts and stand texts have for them. The form is this project's own.
-- Public clauses cite this.
use Rattle.std.specs.Prelude.{◌≡◌, ◌⊎◌, ℕ, Bool, true, false, List, [], ◌∷◌, length, codes, if◌then◌else◌, Option, None, Some, Result, MatchResult}
use Rattle.nd_bytes.specs.Compared.{bytes_eq}
use Rattle.nd_closure.specs.Info.{words_of}
use Rattle.nd_script.specs.declared.line_error.LineError.{LineError}
use Rattle.nd_script.specs.declared.line_error.LineError.TheVariants.{Memory}
use Rattle.nd_script.specs.Words.{AreLists}
use Rattle.nd_script.specs.Calls.{IsCallWith}
use Rattle.nd_script.specs.Lines.{IsLineOf}
use Rattle.nd_transports.specs.declared.kinds.Answer.{Answer}
use Rattle.nd_transports.specs.declared.kinds.Answer.TheVariants.{Built as WasBuilt, Status as HadStatus, Lost as WasLost, Memory as FoundNoMemory}
use Rattle.nd_agents.specs.declared.ending.Ending.{Ending}
use Rattle.nd_agents.specs.declared.ending.Ending.TheVariants.{Built, Failed, Lost}
use Rattle.nd_agents.specs.CallTexts.{line_with}

-- a yes or no
abbrev pub word : Bool → List ℕ
word true = codes "yes"
word false = codes "no"

-- .. and its line
abbrev pub word_line : Bool → List ℕ
word_line answered = line_with (word answered)

-- how a build ended, by the first word of its answer
abbrev pub ending_of : List ℕ → Option Ending
ending_of word =
    if bytes_eq word (codes "built") then Some Built else
    if bytes_eq word (codes "failed") then Some Failed else
    if bytes_eq word (codes "lost") then Some Lost else None

-- a list of references for each output
pub record IsListed (words : List (List ℕ)) (answer : Answer) : Type 0 where
  pub refs : List (List (List ℕ))
  pub lists : AreLists words refs
  pub is : answer ≡ Answer.Built refs

-- .. or no list at all
abbrev pub IsBuilt : List (List ℕ) → Answer → Type 0
IsBuilt words answer = ((words ≡ []) × (answer ≡ Answer.Built [])) ⊎ IsListed words answer

-- what the words behind the first one say: references, a status of 0 to 255, or nothing
abbrev pub IsEnding : Ending → List (List ℕ) → Answer → Type 0
IsEnding Built words answer = IsBuilt words answer
IsEnding Failed words answer = IsCallWith 256 Answer.Status words answer
IsEnding Lost words answer = (words ≡ []) × (answer ≡ Answer.Lost)

-- what a line, without its newline, says of a build
abbrev pub IsAnswer : List ℕ → Answer → Type 0
IsAnswer = IsLineOf ending_of IsEnding

-- a build that ended with its outputs reports a list for each of so many
abbrev pub HasLists : ℕ → Answer → Type 0
HasLists outputs (WasBuilt refs) = length refs ≡ outputs
HasLists outputs (HadStatus code) = Unit {0}
HasLists outputs WasLost = Unit {0}
HasLists outputs FoundNoMemory = Unit {0}

-- the line, without its newline, answers a build of so many outputs: with another number of lists it is no answer
pub record IsAnswerFor (outputs : ℕ) (line : List ℕ) (answer : Answer) : Type 0 where
  pub says : IsAnswer line answer
  pub lists : HasLists outputs answer

-- the line tells a build that ended with its outputs: what stands behind its first word is all that memory is wanted for
pub record IsListing (line : List ℕ) : Type 0 where
  pub first : List ℕ
  pub others : List (List ℕ)
  pub words : words_of line ≡ first ∷ others
  pub names : ending_of first ≡ Some Built

-- the answer is so, unless memory runs out
abbrev pub OkUnlessMemory : {A : Type 0} → Result A LineError → (A → Type 0) → Type 0
OkUnlessMemory result IsSo = MatchResult result IsSo (λ e. e ≡ Memory)
