-- What contracts see of a device and of the mark that is kept beside it. What the device takes
-- and gives is said by std's words for writers and readers whose bytes are known.
-- Public clauses cite this.
use Rattle.std.specs.Prelude.{Bool}

-- a reader or writer, and whether it has refused a call
pub record Watched (T : Type 0) : Type 0 where
  pub device : T
  pub is_marked : Bool
