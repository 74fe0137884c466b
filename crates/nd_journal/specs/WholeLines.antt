-- The whole lines of a text: it without the bytes behind its last newline. Public clauses cite this, but for `AreWholeTo`, which serves a private
-- one.
use Rattle.std.specs.Prelude.{◌≡◌, ◌==◌, ℕ, ◌≤◌, Bool, List, [], ◌∷◌, ◌++◌, length, take, drop, if◌then◌else◌}
use Rattle.std.specs.List.{list_any}

-- there is a newline
abbrev pub has_newline : List ℕ → Bool
has_newline text = list_any (λ b. b == 10) text

-- all bytes up to the last newline
abbrev pub whole_lines : List ℕ → List ℕ
whole_lines [] = []
whole_lines (b ∷ text) = if has_newline (b ∷ text) then b ∷ whole_lines text else []

-- the bytes behind the last newline: a line that isn't finished, or nothing
abbrev pub unfinished : List ℕ → List ℕ
unfinished text = drop (length (whole_lines text)) text

-- the whole lines of the first n bytes are the first k of them
pub record AreWholeTo (text : List ℕ) (n k : ℕ) : Type 0 where
  pub whole : whole_lines (take n text) ≡ take k text
  pub within : k ≤ n

-- a list begins with another
pub record IsBeginning {X : Type 0} (front whole : List X) : Type 0 where
  pub rest : List X
  pub is : whole ≡ front ++ rest

-- .. and doesn't
pub record IsNoBeginning {X : Type 0} (front whole : List X) : Type 0 where
  pub never : IsBeginning front whole → ⊥
