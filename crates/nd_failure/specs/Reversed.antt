-- The edges of a graph, read from the inputs up.
-- No public clause cites this: it says what a type keeps, and serves private clauses and proofs.
use Rattle.std.specs.Prelude.{◌≡◌, ◌+◌, ℕ, List, length, cond, take, nat_eq}
use Rattle.std.specs.List.{count_by}
use Rattle.nd_graph.specs.Walks.{inputs_of}

-- the list has each node as often as it has c among its inputs
pub record AreDependants (rows : List (List ℕ)) (c : ℕ) (dependants : List ℕ) : Type 0 where
  pub same : (d : ℕ) → count_by (nat_eq d) dependants ≡ count_by (nat_eq c) (inputs_of rows d)

-- the list at c has the dependants of c
pub record AreReversed (rows back : List (List ℕ)) : Type 0 where
  pub sized : length back ≡ length rows
  pub same : (c : ℕ) → AreDependants rows c (inputs_of back c)

-- node stands in the list of each c as often more as c stands among its inputs
pub record AddsDependant (node : ℕ) (inputs : List ℕ) (old new : List (List ℕ)) : Type 0 where
  pub sized : length new ≡ length old
  pub counted : (c d : ℕ) → count_by (nat_eq d) (inputs_of new c)
      ≡ count_by (nat_eq d) (inputs_of old c) + cond (nat_eq d node) (count_by (nat_eq c) inputs) 0

-- the lists have the dependants among the first n nodes
pub record AreReversedTo (n : ℕ) (rows back : List (List ℕ)) : Type 0 where
  pub sized : length back ≡ length rows
  pub same : (c : ℕ) → AreDependants (take n rows) c (inputs_of back c)
