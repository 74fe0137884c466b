-- The derivations of each group, and where each stands among them.
-- No public clause cites this: it says what a type keeps, and serves private clauses.
use Rattle.std.specs.Prelude.{◌≡◌, ◌<◌, ℕ, Bool, false, List, [], Option, None, Some, length, slice_index_or}
use Rattle.nd_flags.specs.Members.{IsMember}

-- the group of derivation d
abbrev pub group_in : List ℕ → ℕ → ℕ
group_in groups d = slice_index_or groups d 0

-- the derivations of group g
abbrev pub list_of : List (List ℕ) → ℕ → List ℕ
list_of lists g = slice_index_or lists g []

-- the flags of group g, one for each of its derivations
abbrev pub flags_of : List (List Bool) → ℕ → List Bool
flags_of flags g = slice_index_or flags g []

-- where derivation d stands in its group's list, and the derivation at a place of a group's list
abbrev pub place_in : List ℕ → ℕ → ℕ
place_in places d = slice_index_or places d 0

abbrev pub drv_at : List (List ℕ) → ℕ → ℕ → ℕ
drv_at lists g k = slice_index_or (list_of lists g) k 0

-- derivation d stands in the list of its group, at its place
pub record IsSeated (groups places : List ℕ) (lists : List (List ℕ)) (d : ℕ) : Type 0 where
  pub group : group_in groups d < length lists
  pub place : place_in places d < length (list_of lists (group_in groups d))
  pub there : drv_at lists (group_in groups d) (place_in places d) ≡ d

-- the first n derivations stand in the lists of their groups and no others do, in rising order
pub record AreSeated (n : ℕ) (groups places : List ℕ) (lists : List (List ℕ)) : Type 0 where
  pub seat : (d : ℕ) → d < n → IsSeated groups places lists d
  pub node : (g k : ℕ) → k < length (list_of lists g) → drv_at lists g k < n
  pub group : (g k : ℕ) → k < length (list_of lists g) → group_in groups (drv_at lists g k) ≡ g
  pub place : (g k : ℕ) → k < length (list_of lists g) → place_in places (drv_at lists g k) ≡ k
  pub rising : (g j k : ℕ) → j < k → k < length (list_of lists g) → drv_at lists g j < drv_at lists g k

-- each group has a flag for each of its derivations, up where that one is ready
pub record AreFlagged (lists : List (List ℕ)) (flags : List (List Bool)) (ready : List Bool) : Type 0 where
  pub groups : length flags ≡ length lists
  pub sized : (g : ℕ) → length (flags_of flags g) ≡ length (list_of lists g)
  pub same : (g k : ℕ) → k < length (list_of lists g)
      → slice_index_or (flags_of flags g) k false ≡ slice_index_or ready (drv_at lists g k) false

-- which derivations are ready, by group
pub record Readied : Type 0 where
  -- the group of each derivation
  pub groups : List ℕ
  -- whether each derivation is ready
  pub ready : List Bool
  -- the number of groups
  pub count : ℕ

-- derivation d is ready and of group g
pub record IsReadyIn (r : Readied) (g d : ℕ) : Type 0 where
  pub group : group_in r.groups d ≡ g
  pub ready : IsMember r.ready d

-- d is the least ready derivation of group g
pub record IsLeastReady (r : Readied) (g d : ℕ) : Type 0 where
  pub ready : IsReadyIn r g d
  pub least : (k : ℕ) → k < d → IsReadyIn r g k → ⊥

-- the least ready derivation of group g, or none where none of it is ready
abbrev pub IsFirstReadyIn : Readied → ℕ → Option ℕ → Type 0
IsFirstReadyIn r g None = (d : ℕ) → IsReadyIn r g d → ⊥
IsFirstReadyIn r g (Some d) = IsLeastReady r g d
