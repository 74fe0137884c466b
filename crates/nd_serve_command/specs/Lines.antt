-- Where the first newline of what was read of a reader stands. Private clauses cite this.
use Rattle.std.specs.Prelude.{◌≡◌, ◌==◌, ℕ, List, length, None, Some}
use Rattle.nd_bytes.specs.Cut.{until, behind}

-- what stands before the first newline
abbrev pub front : List ℕ → List ℕ
front text = until (λ b. b == 10) text

-- there is one, and it stands behind n bytes
pub record EndsAt (text : List ℕ) (n : ℕ) : Type 0 where
  pub at : n ≡ length (front text)
  pub more : List ℕ
  pub newline : behind (λ b. b == 10) text ≡ Some more

-- there is none
pub record IsEndless (text : List ℕ) : Type 0 where
  pub none : behind (λ b. b == 10) text ≡ None
