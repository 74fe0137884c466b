-- The info text: what it lists, and its first bad line.
-- The form is this project's own: lines separated by newlines, each a store path and its references separated by single spaces.
-- Public clauses cite this.
use Rattle.std.specs.Prelude.{◌≡◌, ◌==◌, ℕ, ◌-◌, ◌<◌, ◌≤◌, false, List, [], ◌∷◌, length, take, slice_index_or, Result, MatchResult}
use Rattle.std.specs.List.{slice_split, All}
use Rattle.nd_bytes.specs.Lines.{lines_of}
use Rattle.nd_path.specs.Refusals.{IsPath}
use Rattle.nd_path.specs.PathSets.{IsRising, HasSameMembers}
use Rattle.nd_closure.specs.Tables.{is_listed}
use Rattle.nd_closure.specs.declared.info_error.InfoError.{InfoError}
use Rattle.nd_closure.specs.declared.info_error.InfoError.TheVariants.{BadLine, Memory}

-- the words of a line: what stands between its spaces, an empty word where two spaces meet or one stands at an end
abbrev pub words_of : List ℕ → List (List ℕ)
words_of line = slice_split (λ b. b == 32) line

-- a line lists a path with its references: its words are store paths, the first is the path, and the set of the others is in rising
-- order
pub record IsLine (line : List ℕ) (entry : List ℕ × List (List ℕ)) : Type 0 where
  pub others : List (List ℕ)
  pub words : words_of line ≡ entry.0 ∷ others
  pub path : IsPath entry.0
  pub paths : All IsPath others
  pub members : HasSameMembers others entry.1
  pub rising : IsRising entry.1

abbrev pub no_entry : List ℕ × List (List ℕ)
no_entry = ([], [])

-- lines list entries: one for each line, and no path that stands on an earlier line
pub record AreListed (lines : List (List ℕ)) (entries : List (List ℕ × List (List ℕ))) : Type 0 where
  pub size : length entries ≡ length lines
  pub line : (n : ℕ) → n < length lines → IsLine (slice_index_or lines n []) (slice_index_or entries n no_entry)
  pub fresh : (n : ℕ) → n < length lines → is_listed (take n entries) (slice_index_or entries n no_entry).0 ≡ false

-- line n, counted from 1, is the first bad one: those before it list entries, and it lists none with another path
pub record IsFirstBad (lines : List (List ℕ)) (n : ℕ) : Type 0 where
  pub counted : 0 < n
  pub within : n ≤ length lines
  pub entries : List (List ℕ × List (List ℕ))
  pub before : AreListed (take (n - 1) lines) entries
  pub bad : (entry : List ℕ × List (List ℕ)) → IsLine (slice_index_or lines (n - 1) []) entry → is_listed entries entry.0 ≡ false → ⊥

-- an info text is refused for its first bad line, and at any point for want of memory
abbrev pub IsRefused : List ℕ → InfoError → Type 0
IsRefused text (BadLine n) = IsFirstBad (lines_of text) n
IsRefused text Memory = Unit {0}

-- the answer is so, unless memory runs out
abbrev pub OkUnlessMemory : {A : Type 0} → Result A InfoError → (A → Type 0) → Type 0
OkUnlessMemory answer IsSo = MatchResult answer IsSo (λ e. e ≡ Memory)
