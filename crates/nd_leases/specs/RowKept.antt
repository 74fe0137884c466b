-- What a row keeps beside its slots: the set of those that are free.
-- No public clause cites this: it says what a type keeps.
use Rattle.std.specs.Prelude.{◌≡◌, ◌≤◌, ℕ, Bool, true, false, List, Option, None, Some, length, slice_index_or}
use Rattle.nd_flags.specs.Members.{IsMember}
use Rattle.nd_leases.specs.declared.row.Row.TheInside.{Inside}

abbrev pub is_free : Option ℕ → Bool
is_free None = true
is_free (Some d) = false

-- a set has no member
pub record IsNone (set : List Bool) : Type 0 where
  pub none : (k : ℕ) → IsMember set k → ⊥

-- the set is that of the free slots of the row, and has room for all of them
pub record IsKept (r : Inside) : Type 0 where
  pub room : length r.slots.items ≤ length r.free
  pub free : (k : ℕ) → slice_index_or r.free k false ≡ is_free (slice_index_or r.slots.items k (Some 0))
