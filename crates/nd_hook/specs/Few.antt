-- The machines of a few places that stand for those of many.
-- Public clauses cite this.
use Rattle.std.specs.Prelude.{ℕ, Bool, List, Contains}
use Rattle.nd_machines.specs.Builders.{Builder}
use Rattle.nd_choose.specs.Best.{IsFree}

-- the few are some of the many, and each of the many that is up and has a free slot is one of them
pub record HoldFree (machines : List Builder) (loads : List ℕ) (ups : List Bool) (many few : List ℕ) : Type 0 where
  pub some : (place : ℕ) → Contains few place → Contains many place
  pub free : (place : ℕ) → Contains many place → IsFree machines loads ups place → Contains few place
