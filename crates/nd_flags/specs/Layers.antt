-- A row of flags and the layer above it, in which one flag stands for 64 of the row.
-- No public clause cites this: it says what a type keeps, and what is found of a block.
use Rattle.std.specs.Prelude.{◌≡◌, ◌≤◌, ◌/◌, ◌+◌, ℕ, Bool, true, false, List, Option, None, Some, length}
use Rattle.nd_flags.specs.Members.{IsMember, IsLeastFrom}

-- the flag j of the layer above is up exactly where one of the flags 64 j to 64 j + 63 is
pub record AreSummed (row above : List Bool) : Type 0 where
  pub sized : length above ≡ length row / 64 + 1
  pub up : (k : ℕ) → IsMember row k → IsMember above (k / 64)
  pub down : (j : ℕ) → IsMember above j → (k : ℕ) × (k / 64 ≡ j) × IsMember row k

-- whether a flag of the block is up
abbrev pub IsAnyUp : List Bool → ℕ → Bool → Type 0
IsAnyUp row block true = (k : ℕ) × (k / 64 ≡ block) × IsMember row k
IsAnyUp row block false = (k : ℕ) → k / 64 ≡ block → IsMember row k → ⊥

-- i is the first place of `from`'s block that is not before it and whose flag is up
pub record IsLeastWithin (row : List Bool) (from i : ℕ) : Type 0 where
  pub same_block : i / 64 ≡ from / 64
  pub first : IsLeastFrom row from i

-- the first flag of `from`'s block that is up and not before `from`, or none where there is no such flag
abbrev pub IsFirstWithin : List Bool → ℕ → Option ℕ → Type 0
IsFirstWithin row from None = (k : ℕ) → from ≤ k → k / 64 ≡ from / 64 → IsMember row k → ⊥
IsFirstWithin row from (Some i) = IsLeastWithin row from i
