-- The paths that machines hold, by number.
-- Public clauses cite this.
use Rattle.std.specs.Prelude.{◌≡◌, ◌≢◌, ℕ, Bool, List, [], ◌∷◌, ◌++◌, length, slice_index_or, ◌==◌, if◌then◌else◌}
use Rattle.std.specs.List.{list_any}

-- what a contract sees of what a machine holds: the numbers in the order in which they came, each once, and how many more can be
-- added without taking memory
pub record Hold : Type 0 where
  pub numbers : List ℕ
  pub spare : ℕ

-- whether the numbers hold this one
abbrev pub is_among : List ℕ → ℕ → Bool
is_among numbers n = list_any (λ k. n == k) numbers

-- the numbers, and behind them one more where that is new
abbrev pub with_new : List ℕ → ℕ → Bool → List ℕ
with_new numbers n is_new = if is_new then numbers ++ n ∷ [] else numbers

-- nothing held, and no room
abbrev pub empty_hold : Hold
empty_hold = record { numbers = []; spare = 0 }

-- what machine m holds
abbrev pub hold_of : List Hold → ℕ → Hold
hold_of holds m = slice_index_or holds m empty_hold

-- the same machines, and all but m as they were
pub record KeepsOthers (old new : List Hold) (m : ℕ) : Type 0 where
  pub size : length new ≡ length old
  pub others : (k : ℕ) → k ≢ m → hold_of new k ≡ hold_of old k

-- the same machines with the same numbers, each in the same order
pub record HoldTheSame (holds others : List Hold) : Type 0 where
  pub size : length others ≡ length holds
  pub numbers : (m : ℕ) → (hold_of others m).numbers ≡ (hold_of holds m).numbers
