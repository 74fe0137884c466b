-- How a failure spreads: from a node to its dependants, and on from each of these.
-- No public clause cites this: it serves private clauses and proofs alone.
use Rattle.std.specs.Prelude.{◌≡◌, ◌⊎◌, ℕ, Bool, List, length, Contains}
use Rattle.std.specs.List.{count_by}
use Rattle.nd_graph.specs.Walks.{inputs_of, IsBelow}
use Rattle.nd_flags.specs.Members.{IsMember}

-- how many members a set has
abbrev pub size_of : List Bool → ℕ
size_of flags = count_by (λ up. up) flags

-- the nodes of `from` are in the set, and those that are new there are on the work list too
pub record Visited (from : List ℕ) (old new : List Bool) (work after : List ℕ) : Type 0 where
  pub sized : length new ≡ length old
  pub still : (d : ℕ) → IsMember old d → IsMember new d
  pub reached : (d : ℕ) → Contains from d → IsMember new d
  pub fresh : (d : ℕ) → IsMember new d → IsMember old d ⊎ (Contains from d × Contains after d)
  pub kept : (d : ℕ) → Contains work d → Contains after d
  pub added : (d : ℕ) → Contains after d → Contains work d ⊎ Contains from d

-- beside the old members the set has only nodes above the root, and each that is above a member or the root,
-- but for those above a node that is still on the work list
pub record Spreading (rows : List (List ℕ)) (root : ℕ) (old new : List Bool) (work : List ℕ) : Type 0 where
  pub sized : length new ≡ length old
  pub still : (d : ℕ) → IsMember old d → IsMember new d
  pub sound : (d : ℕ) → IsMember new d → IsMember old d ⊎ IsBelow rows d root
  pub closed : (x d : ℕ) → (x ≡ root) ⊎ IsMember new x → Contains (inputs_of rows d) x → Contains work x ⊎ IsMember new d
  pub worked : (x : ℕ) → Contains work x → (x ≡ root) ⊎ IsBelow rows x root

-- the set is closed under what depends on a member
pub record IsClosed (rows : List (List ℕ)) (flags : List Bool) : Type 0 where
  pub closed : (x d : ℕ) → IsMember flags x → Contains (inputs_of rows d) x → IsMember flags d

-- beside the old members the set has exactly the nodes that depend on the root
pub record SpreadsFrom (rows : List (List ℕ)) (root : ℕ) (old new : List Bool) : Type 0 where
  pub sized : length new ≡ length old
  pub still : (d : ℕ) → IsMember old d → IsMember new d
  pub sound : (d : ℕ) → IsMember new d → IsMember old d ⊎ IsBelow rows d root
  pub complete : (d : ℕ) → IsBelow rows d root → IsMember new d
