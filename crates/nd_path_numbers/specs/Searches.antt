-- Searches that stop at each held path.
-- Public clauses cite `IsReachedUnheld`, `IsUnheld` and `FindsUnheld`; the others serve private clauses alone.
use Rattle.std.specs.Prelude.{◌≡◌, ℕ, List, ◌++◌, ◌⊎◌, map}
use Rattle.std.specs.List.{Contains}
use Rattle.nd_closure.specs.Tables.{refs_of}
use Rattle.nd_path_numbers.specs.Numbers.{Numbered, AreNumbered, AreKnown, path_in, row_in}

-- each number is found or held
pub record IsCovered (numbers held found : List ℕ) : Type 0 where
  pub each : (n : ℕ) → Contains numbers n → Contains found n ⊎ Contains held n

-- numbers were added behind the old ones, each from the list given and none of them held
pub record AddsUnheld (held old new numbers : List ℕ) : Type 0 where
  pub added : List ℕ
  pub grown : new ≡ old ++ added
  pub among : (n : ℕ) → Contains added n → Contains numbers n
  pub lacked : (n : ℕ) → Contains added n → Contains held n → ⊥

-- a number is reached from the seeds along the rows by a walk of which no number is held
pub data IsAlong (rows : List (List ℕ)) (held seeds : List ℕ) : ℕ → Type 0 where
  seed : (n : ℕ) → Contains seeds n → (Contains held n → ⊥) → IsAlong rows held seeds n
  step : (n k : ℕ) → IsAlong rows held seeds n → Contains (row_in rows n) k → (Contains held k → ⊥) → IsAlong rows held seeds k

-- the numbers that are reached from the seeds through numbers that aren't held
pub record AreUnheld (rows : List (List ℕ)) (held seeds found : List ℕ) : Type 0 where
  pub reached : (n : ℕ) → Contains found n → IsAlong rows held seeds n
  pub seeded : IsCovered seeds held found
  pub onward : (n : ℕ) → Contains found n → IsCovered (row_in rows n) held found

-- a path is reached from the seeds along references by a walk of which no path is held, be it the seed, one between or the last
pub data IsReachedUnheld (entries : List (List ℕ × List (List ℕ))) (held seeds : List (List ℕ)) : List ℕ → Type 0 where
  seed : (p : List ℕ) → Contains seeds p → (Contains held p → ⊥) → IsReachedUnheld entries held seeds p
  step : (p q : List ℕ) → IsReachedUnheld entries held seeds p → Contains (refs_of entries p) q → (Contains held q → ⊥) → IsReachedUnheld entries held seeds q

-- the paths that are so reached, and no other: the search ends at a path that is held
pub record IsUnheld (entries : List (List ℕ × List (List ℕ))) (held seeds paths : List (List ℕ)) : Type 0 where
  pub reached : (p : List ℕ) → Contains paths p → IsReachedUnheld entries held seeds p
  pub seeded : (p : List ℕ) → Contains seeds p → Contains paths p ⊎ Contains held p
  pub onward : (p q : List ℕ) → Contains paths p → Contains (refs_of entries p) q → Contains paths q ⊎ Contains held q

-- these paths are so reached in each table that the rows tell, where the numbers are known
pub record FindsUnheld (n : Numbered) (held seeds : List ℕ) (paths : List (List ℕ)) : Type 0 where
  pub tells : (entries : List (List ℕ × List (List ℕ))) → AreNumbered entries n → AreKnown n.paths held → AreKnown n.paths seeds → IsUnheld entries (map (path_in n.paths) held) (map (path_in n.paths) seeds) paths
