-- The state of a depth-first search for an order of the nodes in which each stands after its inputs. Serves proofs alone.
use Rattle.std.specs.Prelude.{◌≡◌, ℕ, suc, ◌+◌, ◌-◌, ◌<◌, ◌≤◌, List, [], ◌∷◌, ◌++◌, length, Contains, Option, None, Some}
use Rattle.std.specs.List.{slice_index_or}
use Rattle.nd_graph.specs.Walks.{inputs_of, IsRising, AreDistinct}

-- how many inputs node d has
abbrev pub input_count : List (List ℕ) → ℕ → ℕ
input_count rows d = length (inputs_of rows d)

-- A search gives each node a number of steps that are left: its inputs and two more before it is met,
-- its inputs not yet passed and one more while it stands on the trail, 0 once it stands in the order.
abbrev pub left_of : List ℕ → ℕ → ℕ
left_of left d = slice_index_or left d 0

-- the node isn't met yet
abbrev pub IsNew : List (List ℕ) → List ℕ → ℕ → Type 0
IsNew rows left d = left_of left d ≡ input_count rows d + 2

-- the node is met, and not yet in the order
abbrev pub IsOpen : List (List ℕ) → List ℕ → ℕ → Type 0
IsOpen rows left d = (0 < left_of left d) × (left_of left d < input_count rows d + 2)

-- the next input that the node has to pass: none where one step is left
abbrev pub IsNext : List (List ℕ) → List ℕ → ℕ → Option ℕ → Type 0
IsNext rows left d None = left_of left d ≡ 1
IsNext rows left d (Some next) = (1 < left_of left d) × Contains (inputs_of rows d) next × (next ≡ slice_index_or (inputs_of rows d) (input_count rows d + 1 - left_of left d) 0)

-- the search went on: no node has more steps left than before
pub record Advances (old new : List ℕ) : Type 0 where
  pub sized : length new ≡ length old
  pub falls : (d : ℕ) → left_of new d ≤ left_of old d

-- what a search keeps: the trail is a walk down over the open nodes, the order has the nodes that are done,
-- and the inputs that a node has passed are done
pub record IsSearch (rows : List (List ℕ)) (left trail order : List ℕ) : Type 0 where
  pub sized : length left ≡ length rows
  pub bounded : (d : ℕ) → d < length rows → left_of left d ≤ input_count rows d + 2
  pub passed : (d k : ℕ) → d < length rows → k < input_count rows d → k + left_of left d ≤ input_count rows d → left_of left (slice_index_or (inputs_of rows d) k 0) ≡ 0
  pub on_trail : (d : ℕ) → d < length rows → IsOpen rows left d → Contains trail d
  pub opened : (d : ℕ) → Contains trail d → (d < length rows) × IsOpen rows left d
  pub linked : (j : ℕ) → suc j < length trail → Contains (inputs_of rows (slice_index_or trail j 0)) (slice_index_or trail (suc j) 0)
  pub apart : AreDistinct trail
  pub in_order : (d : ℕ) → d < length rows → left_of left d ≡ 0 → Contains order d
  pub done : (d : ℕ) → Contains order d → (d < length rows) × (left_of left d ≡ 0)
  pub once : AreDistinct order
  pub rises : IsRising rows order

-- what a search keeps is kept still, whatever stands on the trail before its last node
pub record KeepsSearch (rows : List (List ℕ)) (top : ℕ) (old new : List ℕ) : Type 0 where
  pub kept : (trail order : List ℕ) → IsSearch rows old (trail ++ top ∷ []) order → IsSearch rows new (trail ++ top ∷ []) order
