-- Texts of lines that say one thing each: what a line says, what all of them say, and the first bad one.
-- Public clauses cite this.
use Rattle.std.specs.Prelude.{◌≡◌, ℕ, ◌-◌, ◌<◌, ◌≤◌, List, [], ◌∷◌, length, take, slice_index_or, Option, Some, Result, MatchResult}
use Rattle.std.specs.List.{AllZip}
use Rattle.nd_bytes.specs.Lines.{lines_of}
use Rattle.nd_closure.specs.Info.{words_of}
use Rattle.nd_script.specs.declared.script_error.ScriptError.{ScriptError}
use Rattle.nd_script.specs.declared.script_error.ScriptError.TheVariants.{BadLine, Memory}

-- the first word of a line says what is asked for, and the others with what
pub record IsLineOf {V X : Type 0} (verb_of : List ℕ → Option V) (Said : V → List (List ℕ) → X → Type 0) (line : List ℕ) (item : X) : Type 0 where
  pub first : List ℕ
  pub others : List (List ℕ)
  pub words : words_of line ≡ first ∷ others
  pub verb : V
  pub names : verb_of first ≡ Some verb
  pub said : Said verb others item

-- what the lines say, one thing each
pub record AreItems {X : Type 0} (Says : List ℕ → X → Type 0) (lines : List (List ℕ)) (items : List X) : Type 0 where
  pub each : AllZip Says lines items

-- line n, counted from 1, is the first bad one: those before it say something, and it says nothing
pub record IsFirstBad {X : Type 0} (Says : List ℕ → X → Type 0) (lines : List (List ℕ)) (n : ℕ) : Type 0 where
  pub counted : 0 < n
  pub within : n ≤ length lines
  pub items : List X
  pub before : AreItems Says (take (n - 1) lines) items
  pub bad : (item : X) → Says (slice_index_or lines (n - 1) []) item → ⊥

-- a text is refused for its first bad line, and at any point for want of memory
abbrev pub IsRefusedBy : {X : Type 0} → (List ℕ → X → Type 0) → List ℕ → ScriptError → Type 0
IsRefusedBy Says text (BadLine n) = IsFirstBad Says (lines_of text) n
IsRefusedBy Says text Memory = Unit {0}

-- the answer is so, unless memory runs out
abbrev pub OkUnlessMemory : {A : Type 0} → Result A ScriptError → (A → Type 0) → Type 0
OkUnlessMemory answer IsSo = MatchResult answer IsSo (λ e. e ≡ Memory)
