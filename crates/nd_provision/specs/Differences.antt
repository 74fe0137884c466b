-- Set difference.
-- Public clauses cite this.
use Rattle.std.specs.Prelude.{ℕ, List, ◌⊎◌}
use Rattle.std.specs.List.{Contains}

-- the members of one set that another lacks
pub record IsDifference (paths held missing : List (List ℕ)) : Type 0 where
  pub of : (p : List ℕ) → Contains missing p → Contains paths p
  pub lacked : (p : List ℕ) → Contains missing p → Contains held p → ⊥
  pub all : (p : List ℕ) → Contains paths p → Contains missing p ⊎ Contains held p
