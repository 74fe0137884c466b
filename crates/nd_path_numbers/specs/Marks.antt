-- Which numbers a list has, by flags and beyond them by a set.
-- Private clauses alone cite this.
use Rattle.std.specs.Prelude.{◌≡◌, ℕ, ◌≤◌, ◌<◌, ◌-◌, ◌/◌, ◌%◌, Bool, List, [], ◌∷◌, ◌++◌, Option, None, Some, length, slice_index_or, ◌==◌}
use Rattle.std.specs.Int.{bit_at}
use Rattle.indexmap.specs.IndexSet.{spare}
use Rattle.nd_path_numbers.specs.Held.{is_among}
use Rattle.nd_path_numbers.specs.declared.marks.Marks.{Marks}

-- the flag of a number in words of 64
abbrev pub is_up : List ℕ → ℕ → Bool
is_up words n = bit_at (slice_index_or words (n / 64) 0) (n % 64) == 1

-- each flag is up exactly where the list has its number, and the set has just those of the list that have no flag
pub record AreMarked (numbers : List ℕ) (m : Marks) : Type 0 where
  pub within : (n : ℕ) → n / 64 < length m.words.items → is_up m.words.items n ≡ is_among numbers n
  pub others : (n : ℕ) → length m.words.items ≤ n / 64 → is_among numbers n ≡ is_among m.others.keys n

-- the marks of the same lists
abbrev pub MarkTheSame : Marks → Marks → Type 0
MarkTheSame old new = (numbers : List ℕ) → AreMarked numbers old → AreMarked numbers new

-- the marks of the lists that got this number
abbrev pub TakeNote : ℕ → Marks → Marks → Type 0
TakeNote number old new = (numbers : List ℕ) → AreMarked numbers old → AreMarked (numbers ++ number ∷ []) new

-- where there are marks, they are those of the list
abbrev pub AreTold : List ℕ → Option Marks → Type 0
AreTold numbers None = Unit {0}
AreTold numbers (Some m) = AreMarked numbers m

-- how many more numbers of any size can be noted without taking memory
abbrev pub room_of : Marks → ℕ
room_of m = spare m.others

-- .. beside these numbers: a few take none
abbrev pub room_beside : List ℕ → Option Marks → ℕ
room_beside numbers None = 64 - length numbers
room_beside numbers (Some m) = room_of m

-- what is told of the same lists
abbrev pub TellTheSame : Option Marks → Option Marks → Type 0
TellTheSame old new = (numbers : List ℕ) → AreTold numbers old → AreTold numbers new
