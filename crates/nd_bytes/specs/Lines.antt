-- The lines of a text: newlines separate them, and one may end the last.
-- Public clauses cite this.
use Rattle.std.specs.Prelude.{ℕ, ◌==◌, List, [], ◌∷◌}
use Rattle.std.specs.List.{slice_split}

-- the piece alone, or nothing where it is empty
abbrev pub unless_empty : List ℕ → List (List ℕ)
unless_empty [] = []
unless_empty (b ∷ piece) = (b ∷ piece) ∷ []

-- without an empty piece at the end, which is what stands behind a last newline
abbrev pub without_empty_end : List (List ℕ) → List (List ℕ)
without_empty_end [] = []
without_empty_end (piece ∷ []) = unless_empty piece
without_empty_end (piece ∷ (next ∷ pieces)) = piece ∷ without_empty_end (next ∷ pieces)

-- the pieces between newlines. A text of no bytes has no lines
unfoldable pub lines_of : List ℕ → List (List ℕ)
lines_of text = without_empty_end (slice_split (λ b. b == 10) text)
