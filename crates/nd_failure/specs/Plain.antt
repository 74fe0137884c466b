-- The nodes with a failed one below, as a board that searches finds them.
-- No public clause cites this: it serves private clauses and proofs alone.
use Rattle.std.specs.Prelude.{◌≡◌, ◌<◌, ◌⊎◌, ℕ, Bool, List, length, Contains, slice_index_or}
use Rattle.nd_flags.specs.Members.{IsMember}
use Rattle.nd_failure.specs.Progress.{mark_of, HasFailedBelow}
use Rattle.nd_failure.specs.declared.status.Mark.{Mark}
use Rattle.nd_failure.specs.declared.status.Mark.TheVariants.{Built, Failed}

-- one of these inputs has failed or is in the set
pub record HasFailedInput (inputs : List ℕ) (marks : List Mark) (doomed : List Bool) : Type 0 where
  pub input : ℕ
  pub has : Contains inputs input
  pub failed : (mark_of marks input ≡ Failed) ⊎ IsMember doomed input

-- all these inputs are built
pub record AreBuilt (inputs : List ℕ) (marks : List Mark) : Type 0 where
  pub built : (c : ℕ) → Contains inputs c → mark_of marks c ≡ Built

-- each node of the set has a failed one below
pub record AreSound (rows : List (List ℕ)) (marks : List Mark) (doomed : List Bool) : Type 0 where
  pub sized : length doomed ≡ length rows
  pub sound : (d : ℕ) → IsMember doomed d → HasFailedBelow rows marks d

-- and of the first n nodes of the order each that has one below is in the set
pub record AreDoomedTo (n : ℕ) (order : List ℕ) (rows : List (List ℕ)) (marks : List Mark) (doomed : List Bool) : Type 0 where
  pub sound : AreSound rows marks doomed
  pub complete : (k : ℕ) → k < n → HasFailedBelow rows marks (slice_index_or order k 0) → IsMember doomed (slice_index_or order k 0)
