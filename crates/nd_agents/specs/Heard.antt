-- What is read of an agent's answers.
-- Private clauses cite this, and `IsNeither`, `HasNoLine` and `ReadsOpening` public ones.
use Rattle.std.specs.Prelude.{◌≡◌, ◌≢◌, ℕ, ◌≤◌, ◌<◌, true, false, List, ◌++◌, length, Option, Some}
use Rattle.std.specs.List.{All}
use Rattle.std.specs.Io.KnownBytes.{Consumes, IsAtEnd}
use Rattle.nd_devices.specs.Watched.{Watched}
use Rattle.nd_agents.specs.declared.hearing.Silence.{Silence}
use Rattle.nd_agents.specs.declared.hearing.Silence.TheVariants.{Ended, Refused}
use Rattle.nd_agents.specs.declared.hearing.Unheard.{Unheard}
use Rattle.nd_agents.specs.declared.hearing.Unheard.TheVariants.{NoLine, Refused as DeviceRefused, Memory}
use Rattle.nd_agents.specs.AnswerTexts.{word_line}
use Rattle.nd_agents.specs.CallTexts.{line_with}

-- where it is known what a reader has left, it doesn't begin with this text
pub record NeverBegins (known : Option (List ℕ)) (text : List ℕ) : Type 0 where
  pub never : (more : List ℕ) → known ≡ Some (text ++ more) → ⊥

-- .. neither with a yes nor with a no
pub record IsNeither (known : Option (List ℕ)) : Type 0 where
  pub yes : NeverBegins known (word_line true)
  pub no : NeverBegins known (word_line false)

-- why no byte came: the reader was at its end, or it refused and is marked
abbrev pub IsSilent : {R : Type 0} → (R → Option (List ℕ)) → Watched R → Watched R → Silence → Type 0
IsSilent remaining old new Ended = IsAtEnd (remaining old.device)
IsSilent remaining old new Refused = new.is_marked ≡ true

-- the most bytes of a line
abbrev pub longest : ℕ
longest = 16777216

-- bytes without a newline
abbrev pub IsPlain : List ℕ → Type 0
IsPlain bytes = All (λ b. b ≢ 10) bytes

-- a line was read, with its newline
pub record ReadsLine (old new : Option (List ℕ)) (line : List ℕ) : Type 0 where
  pub consumed : Consumes old new (line_with line)
  pub plain : IsPlain line
  pub within : length line ≤ longest

-- where it is known what a reader has left, it begins with no line of at most so many bytes
pub record HasNoLine (known : Option (List ℕ)) : Type 0 where
  pub never : (line more : List ℕ) → IsPlain line → length line ≤ longest → known ≡ Some (line_with line ++ more) → ⊥

-- one byte or more was read of a line, and its newline wasn't
pub record ReadsOpening (old new : Option (List ℕ)) : Type 0 where
  pub opening : List ℕ
  pub begun : 0 < length opening
  pub consumed : Consumes old new opening
  pub plain : IsPlain opening

-- there was no memory for a line of which this was read, and the reader didn't refuse
pub record IsShort {R : Type 0} (remaining : R → Option (List ℕ)) (old new : Watched R) : Type 0 where
  pub opening : ReadsOpening (remaining old.device) (remaining new.device)
  pub unmarked : new.is_marked ≡ old.is_marked

-- why no line came: there is none, the reader refused and is marked, or there was no memory for the line
abbrev pub IsCause : {R : Type 0} → (R → Option (List ℕ)) → Watched R → Watched R → Unheard → Type 0
IsCause remaining old new NoLine = HasNoLine (remaining old.device)
IsCause remaining old new DeviceRefused = new.is_marked ≡ true
IsCause remaining old new Memory = IsShort remaining old new

pub record IsUnheard {R : Type 0} (remaining : R → Option (List ℕ)) (old new : Watched R) (why : Unheard) : Type 0 where
  pub cause : IsCause remaining old new why
