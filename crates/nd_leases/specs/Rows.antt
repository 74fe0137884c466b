-- A row of slots, as the derivation on each of them.
-- No public clause cites this: it serves private clauses.
use Rattle.std.specs.Prelude.{◌≡◌, ℕ, ◌<◌, Option, None, List, length, slice_index_or}

-- a slot of the row is free
pub record HasGap (row : List (Option ℕ)) : Type 0 where
  pub slot : ℕ
  pub within : slot < length row
  pub free : slice_index_or row slot None ≡ None
