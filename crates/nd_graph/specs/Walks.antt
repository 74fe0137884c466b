-- Graphs of nodes 0, 1, 2 .., each given by the list of the nodes that it needs, its inputs.
-- "Below", "acyclic" and "an order with inputs first" (a topological order) are the usual words on directed graphs.
-- Cited by the clauses of the graph, and by the crates above.
use Rattle.std.specs.Prelude.{◌≡◌, ℕ, zero, suc, ◌+◌, ◌<◌, List, [], ◌∷◌, length, Contains, cond, nat_eq}
use Rattle.std.specs.List.{slice_index_or}

-- the inputs of node d; a number that is no node has none
abbrev pub inputs_of : List (List ℕ) → ℕ → List ℕ
inputs_of rows d = slice_index_or rows d []

-- each input is a node
pub record AreInRange (rows : List (List ℕ)) : Type 0 where
  pub ranged : (d c : ℕ) → Contains (inputs_of rows d) c → c < length rows

-- one goes from a to b over n inputs, each an input of the node before it
abbrev pub Walk : List (List ℕ) → ℕ → ℕ → ℕ → Type 0
Walk rows a b zero = a ≡ b
Walk rows a b (suc n) = (c : ℕ) × Contains (inputs_of rows a) c × Walk rows c b n

-- x is below d: it is reached from d over one or more inputs
pub record IsBelow (rows : List (List ℕ)) (d x : ℕ) : Type 0 where
  pub steps : ℕ
  pub walk : Walk rows d x (suc steps)

-- no node is below itself
pub record IsAcyclic (rows : List (List ℕ)) : Type 0 where
  pub apart : (d : ℕ) → IsBelow rows d d → ⊥

-- some node is below itself
pub record IsCyclic (rows : List (List ℕ)) : Type 0 where
  pub node : ℕ
  pub below : IsBelow rows node node

-- no two places of the list hold the same
pub record AreDistinct {X : Type 0} (xs : List X) : Type 0 where
  pub apart : (j k : ℕ) (d : X) → j < k → k < length xs → slice_index_or xs j d ≡ slice_index_or xs k d → ⊥

-- each input of a node of the list stands before that node
pub record IsRising (rows : List (List ℕ)) (order : List ℕ) : Type 0 where
  pub before : (k c : ℕ) → k < length order → Contains (inputs_of rows (slice_index_or order k 0)) c → (j : ℕ) × (j < k) × (slice_index_or order j 0 ≡ c)

-- the list has every node once, each after its inputs
pub record IsOrder (rows : List (List ℕ)) (order : List ℕ) : Type 0 where
  pub full : (d : ℕ) → d < length rows → Contains order d
  pub within : (d : ℕ) → Contains order d → d < length rows
  pub once : AreDistinct order
  pub rises : IsRising rows order

-- the first place of d in the list, or the list's length where it isn't there
abbrev pub place_of : List ℕ → ℕ → ℕ
place_of [] d = 0
place_of (x ∷ xs) d = cond (nat_eq x d) 0 (place_of xs d + 1)

-- an input's place is lower than the place of the node that needs it
pub record PlacesFall (rows : List (List ℕ)) (order : List ℕ) : Type 0 where
  pub falls : (d c : ℕ) → d < length rows → Contains (inputs_of rows d) c → place_of order c < place_of order d
