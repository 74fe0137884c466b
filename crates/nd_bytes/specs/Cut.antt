-- Cutting a text at a byte.
-- Public clauses cite this.
use Rattle.std.specs.Prelude.{ℕ, suc, Bool, ◌==◌, List, [], ◌∷◌, length, if◌then◌else◌, Option, None, Some}
use Rattle.std.specs.List.{slice_split}

-- what stands before the first number that passes, or the whole list where none does
abbrev pub until : (ℕ → Bool) → List ℕ → List ℕ
until p [] = []
until p (x ∷ xs) = if p x then [] else x ∷ until p xs

-- what stands after the first number that passes, or nothing where none does
abbrev pub behind : (ℕ → Bool) → List ℕ → Option (List ℕ)
behind p [] = None
behind p (x ∷ xs) = if p x then Some xs else behind p xs

-- the pieces of what is left of a text that is cut at each `byte`: none once nothing is left
abbrev pub pieces : ℕ → Option (List ℕ) → List (List ℕ)
pieces byte None = []
pieces byte (Some bytes) = slice_split (λ b. b == byte) bytes

-- how much is left: nothing, or a text of some length. A cut makes it less
abbrev pub left_over : Option (List ℕ) → ℕ
left_over None = 0
left_over (Some bytes) = suc (length bytes)
