-- A set of the numbers below n as n flags, the one at i being up where i is in the set.
-- Public clauses cite this.
use Rattle.std.specs.Prelude.{◌≡◌, ◌≤◌, ◌<◌, ℕ, Bool, true, false, List, Option, None, Some, slice_index_or}

-- i is in the set
abbrev pub IsMember : List Bool → ℕ → Type 0
IsMember flags i = slice_index_or flags i false ≡ true

-- i is the least member of the set that is not before `from`
pub record IsLeastFrom (flags : List Bool) (from i : ℕ) : Type 0 where
  pub member : IsMember flags i
  pub not_before : from ≤ i
  pub least : (k : ℕ) → from ≤ k → k < i → IsMember flags k → ⊥

-- the least member that is not before `from`, or none where there is no such member
abbrev pub IsFirstFrom : List Bool → ℕ → Option ℕ → Type 0
IsFirstFrom flags from None = (k : ℕ) → from ≤ k → IsMember flags k → ⊥
IsFirstFrom flags from (Some i) = IsLeastFrom flags from i
