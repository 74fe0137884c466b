-- Rows of numbers one behind another in one list, and where each ends.
-- No public clause cites this: it says what a type keeps.
use Rattle.std.specs.Prelude.{◌≡◌, ◌≤◌, ℕ, List, [], ◌∷◌, length}
use Rattle.std.specs.List.{slice_range}

-- the rows, of which the first begins at `from`
abbrev pub rows_in : List ℕ → ℕ → List ℕ → List (List ℕ)
rows_in items from [] = []
rows_in items from (end ∷ ends) = slice_range items from end ∷ rows_in items end ends

-- none of them ends before it begins, and the last one ends at `whole`
abbrev pub Rise : ℕ → ℕ → List ℕ → Type 0
Rise from whole [] = from ≡ whole
Rise from whole (end ∷ ends) = (from ≤ end) × Rise end whole ends

-- the rows take all numbers of the list, and nothing else
pub record AreEnds (items ends : List ℕ) : Type 0 where
  pub rise : Rise 0 (length items) ends
