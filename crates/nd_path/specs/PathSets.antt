-- Sets of store paths, seen as lists of their bytes in strictly rising byte order.
-- Public clauses cite this.
use Rattle.std.specs.Prelude.{ℕ, List}
use Rattle.std.specs.List.{Contains}
use Rattle.std.specs.List.Sorted.{IsStrictlySortedBy}
use Rattle.nd_path.specs.StorePath.{path_cmp}

-- each path is greater than all before it
pub record IsRising (paths : List (List ℕ)) : Type 0 where
  pub rises : IsStrictlySortedBy path_cmp paths

-- two lists have the same members
pub record HasSameMembers (paths others : List (List ℕ)) : Type 0 where
  pub to : (p : List ℕ) → Contains paths p → Contains others p
  pub from : (p : List ℕ) → Contains others p → Contains paths p
