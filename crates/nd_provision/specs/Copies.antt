-- Copied paths that are just what a machine lacks.
-- Private clauses alone cite this.
use Rattle.std.specs.Prelude.{ℕ, ◌<◌, List, length}
use Rattle.nd_history.specs.Premises.{Premises}
use Rattle.nd_provision.specs.Stored.{Stored, IsMissingBy}

-- these paths are those of derivation d's closure that machine m doesn't hold, for any premises that have the derivation
pub record IsMissingIn (s : Stored) (d m : ℕ) (paths : List (List ℕ)) : Type 0 where
  pub tells : (i : Premises) → d < length i.graph.paths → IsMissingBy i s d m paths
