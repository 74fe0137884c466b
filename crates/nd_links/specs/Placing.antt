-- Needs of which equal ones share a value: a table of them, and for each derivation the place of its need there. The clauses of `NeedsReader`
-- cite `Placed` and `ArePlaced`; the rest serves proofs.
use Rattle.std.specs.Prelude.{◌≡◌, ◌++◌, ◌∷◌, [], ℕ, List, Some, slice_get}
use Rattle.std.specs.List.{AllZip, slice_index_or}
use Rattle.nd_eligible.specs.declared.need.Need.{Need}
use Rattle.nd_links.specs.declared.shared_needs.SharedNeeds.{SharedNeeds}

-- what contracts see of them
pub record Placed : Type 0 where
  pub table : List Need
  -- for each derivation, in the order of the bundle
  pub places : List ℕ

-- the need stands at this place
pub record IsPlaced (table : List Need) (need : Need) (place : ℕ) : Type 0 where
  pub stands : slice_get table place ≡ Some need

-- each of these needs stands at its place
pub record ArePlaced (table : List Need) (places : List ℕ) (needs : List Need) : Type 0 where
  pub each : AllZip (IsPlaced table) needs places

-- the need stands behind those before
pub record AddsNeed (need : Need) (old new : SharedNeeds) : Type 0 where
  pub adds : (needs : List Need) → ArePlaced old.table.items old.places.items needs → ArePlaced new.table.items new.places.items (needs ++ need ∷ [])

-- those of the others stand behind the old ones
pub record JoinsNeeds (old others new : SharedNeeds) : Type 0 where
  pub joins : (some more : List Need) → ArePlaced old.table.items old.places.items some → ArePlaced others.table.items others.places.items more → ArePlaced new.table.items new.places.items (some ++ more)

-- the need has this place, behind what the table had
pub record MeetsNeed (need : Need) (old new : SharedNeeds) (place : ℕ) : Type 0 where
  pub more : List Need
  pub grown : new.table.items ≡ old.table.items ++ more
  pub same : new.places.items ≡ old.places.items
  pub is : IsPlaced new.table.items need place

-- these needs have these places
pub record MeetsNeeds (needs : List Need) (old new : SharedNeeds) (met : List ℕ) : Type 0 where
  pub more : List Need
  pub grown : new.table.items ≡ old.table.items ++ more
  pub same : new.places.items ≡ old.places.items
  pub each : AllZip (IsPlaced new.table.items) needs met

-- where the need at a place of another table stands, by where each of its needs does
abbrev pub place_at : List ℕ → ℕ → ℕ
place_at met place = slice_index_or met place 0
