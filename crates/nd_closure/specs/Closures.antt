-- Closures under references.
-- Source: Dolstra, The Purely Functional Software Deployment Model (2006), section 5.2: the closure of a set of paths is the least
-- set that holds them and, with a path, its references.
-- Public clauses cite this, but `AddsOnly` serves private clauses alone.
use Rattle.std.specs.Prelude.{◌≡◌, ℕ, List, ◌++◌}
use Rattle.std.specs.List.{Contains}
use Rattle.nd_closure.specs.Tables.{refs_of}

-- a path is reached from the seeds along references
pub data IsReached (entries : List (List ℕ × List (List ℕ))) (seeds : List (List ℕ)) : List ℕ → Type 0 where
  seed : (p : List ℕ) → Contains seeds p → IsReached entries seeds p
  step : (p q : List ℕ) → IsReached entries seeds p → Contains (refs_of entries p) q → IsReached entries seeds q

-- one list holds each member of the other
pub record HoldsAll (paths others : List (List ℕ)) : Type 0 where
  pub each : (p : List ℕ) → Contains others p → Contains paths p

-- with a path a set holds its references
pub record IsClosed (entries : List (List ℕ × List (List ℕ))) (paths : List (List ℕ)) : Type 0 where
  pub refs : (p : List ℕ) → Contains paths p → HoldsAll paths (refs_of entries p)

-- the least set that holds the seeds and is closed
pub record IsLeastClosed (entries : List (List ℕ × List (List ℕ))) (seeds paths : List (List ℕ)) : Type 0 where
  pub seeded : HoldsAll paths seeds
  pub closed : IsClosed entries paths
  pub least : (others : List (List ℕ)) → HoldsAll others seeds → IsClosed entries others → HoldsAll others paths

-- paths were added behind the old ones, each from the list given
pub record AddsOnly (old new paths : List (List ℕ)) : Type 0 where
  pub added : List (List ℕ)
  pub grown : new ≡ old ++ added
  pub among : HoldsAll paths added
