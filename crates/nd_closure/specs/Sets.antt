-- Membership of a list of paths.
-- Proofs cite this, and those of the crates above; no public clause does.
use Rattle.std.specs.Prelude.{ℕ, Bool, List}
use Rattle.std.specs.List.{list_any}
use Rattle.nd_path.specs.StorePath.{path_eq}

-- whether the paths hold this one
abbrev pub is_held : List (List ℕ) → List ℕ → Bool
is_held paths path = list_any (path_eq path) paths
