-- Paths that stand in the graph beside a derivation: its outputs, its sources and the outputs that it names of its inputs.
-- No public clause cites this.
use Rattle.std.specs.Prelude.{◌≡◌, ℕ, ◌⊎◌, Some, List, [], slice_get}
use Rattle.std.specs.List.{Contains, slice_index_or}
use Rattle.nd_graph.specs.declared.graph.Input.{Input}
use Rattle.nd_graph.specs.Graphs.{Nodes}
use Rattle.nd_history.specs.Premises.{Premises}
use Rattle.nd_history.specs.References.{IsNeededBy, IsOutputOf}

-- the path stands at one of these places of a list
pub record IsAtPlace (outputs : List (List ℕ)) (places : List ℕ) (p : List ℕ) : Type 0 where
  pub place : ℕ
  pub named : Contains places place
  pub path : slice_get outputs place ≡ Some p

-- the path is an output that derivation d names of one of its inputs
pub record IsOfInput (graph : Nodes) (d : ℕ) (p : List ℕ) : Type 0 where
  pub input : Input
  pub needed : Contains (slice_index_or graph.inputs d []) input
  pub named : IsAtPlace (slice_index_or graph.outputs input.node []) input.outputs p

-- derivation d needs the path at once or has it as an output, for any premises with this graph
pub record IsNear (graph : Nodes) (d : ℕ) (p : List ℕ) : Type 0 where
  pub tells : (i : Premises) → i.graph ≡ graph → IsNeededBy i d p ⊎ IsOutputOf i d p

pub record AreNear (graph : Nodes) (d : ℕ) (paths : List (List ℕ)) : Type 0 where
  pub each : (p : List ℕ) → Contains paths p → IsNear graph d p

-- the same of each path of these lists
pub record AreAllNear (graph : Nodes) (d : ℕ) (lists : List (List (List ℕ))) : Type 0 where
  pub each : (list : List (List ℕ)) → Contains lists list → AreNear graph d list

-- there is no path in these lists
pub record AreAllEmpty (lists : List (List (List ℕ))) : Type 0 where
  pub each : (list : List (List ℕ)) → Contains lists list → list ≡ []
