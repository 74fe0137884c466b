-- Whose turn it is: the derivations that are ready, of groups that aren't passed over.
-- Groups of derivations that get the same decisions are this project's own choice.
-- Public clauses cite this.
use Rattle.std.specs.Prelude.{◌≡◌, ◌<◌, ℕ, Bool, false, List, Option, None, Some, slice_index_or}
use Rattle.nd_flags.specs.Members.{IsMember}
use Rattle.nd_pump.specs.Grouped.{group_in}

pub record Queued : Type 0 where
  -- the group of each derivation
  pub groups : List ℕ
  -- whether each derivation is ready
  pub ready : List Bool
  -- whether each group is parked: it is passed over until it is woken
  pub parked : List Bool

-- derivation d is due: it is ready, and its group isn't parked
pub record IsDue (q : Queued) (d : ℕ) : Type 0 where
  pub ready : IsMember q.ready d
  pub awake : slice_index_or q.parked (group_in q.groups d) false ≡ false

-- d is the first derivation that is due
pub record IsLeastDue (q : Queued) (d : ℕ) : Type 0 where
  pub due : IsDue q d
  pub least : (k : ℕ) → k < d → IsDue q k → ⊥

-- the first derivation that is due, or none where none is
abbrev pub IsFirstDue : Queued → Option ℕ → Type 0
IsFirstDue q None = (d : ℕ) → IsDue q d → ⊥
IsFirstDue q (Some d) = IsLeastDue q d
