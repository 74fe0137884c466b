-- The settings of the local machine.
-- Public clauses cite this.
use Rattle.std.specs.Prelude.{ℕ, List}

-- the local system, the extra platforms that it builds for too, the local features, and how many
-- builds may run at once (Nix Reference Manual, settings `system`, `extra-platforms`,
-- `system-features` and `max-jobs`)
pub record Settings : Type 0 where
  pub system : List ℕ
  pub extra : List (List ℕ)
  pub features : List (List ℕ)
  pub jobs : ℕ
