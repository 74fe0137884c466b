-- The graph of a bundle, as contracts see it. Cited by the clauses of the graph, and by the crates above.
use Rattle.std.specs.Prelude.{◌≡◌, ℕ, ◌<◌, ◌≤◌, List, [], length, map, Contains, Option, None, Some}
use Rattle.std.specs.List.{slice_index_or}
use Rattle.nd_eligible.specs.declared.need.Need.{Need}
use Rattle.nd_graph.specs.declared.fault.OrderError.{OrderError}
use Rattle.nd_graph.specs.declared.fault.OrderError.TheVariants.{Cycle, Memory}
use Rattle.nd_graph.specs.declared.graph.Input.{Input}
use Rattle.nd_graph.specs.Walks.{AreDistinct, AreInRange, IsCyclic, IsOrder}

-- the nodes of a graph, numbered in the order of the bundle's lines: node i has the item at i of each list
pub record Nodes : Type 0 where
  -- each derivation's path
  pub paths : List (List ℕ)
  -- what each needs of the machine that builds it
  pub needs : List Need
  -- the nodes that each needs, with the places of the outputs that it names of them
  pub inputs : List (List Input)
  -- the input sources of each
  pub sources : List (List (List ℕ))
  -- the output paths of each, in the order of the outputs' names
  pub outputs : List (List (List ℕ))

-- the nodes with these parts
abbrev pub nodes_with : List (List ℕ) → List Need → List (List Input) → List (List (List ℕ)) → List (List (List ℕ)) → Nodes
nodes_with paths needs inputs sources outputs = record { paths = paths; needs = needs; inputs = inputs; sources = sources; outputs = outputs }

-- the nodes that inputs name
abbrev pub nodes_of : List Input → List ℕ
nodes_of inputs = map (λ i. i.node) inputs

-- per node the nodes that it needs
abbrev pub needed : List (List Input) → List (List ℕ)
needed inputs = map nodes_of inputs

-- the graph as rows of inputs
abbrev pub rows_of : Nodes → List (List ℕ)
rows_of nodes = needed nodes.inputs

-- the greatest number of nodes (this project's own choice)
abbrev pub node_limit : ℕ
node_limit = 65536

-- each named output is one of the node that it is named of
pub record NamesOutputs (inputs : List (List Input)) (outputs : List (List (List ℕ))) : Type 0 where
  pub named : (d : ℕ) (i : Input) (place : ℕ) → Contains (slice_index_or inputs d []) i → Contains i.outputs place → place < length (slice_index_or outputs i.node [])

-- the lists have one item per node, no two nodes have one path, and inputs and named outputs are there
pub record IsSound (nodes : Nodes) : Type 0 where
  pub needs_sized : length nodes.needs ≡ length nodes.paths
  pub inputs_sized : length nodes.inputs ≡ length nodes.paths
  pub sources_sized : length nodes.sources ≡ length nodes.paths
  pub outputs_sized : length nodes.outputs ≡ length nodes.paths
  pub few : length nodes.paths ≤ node_limit
  pub distinct : AreDistinct nodes.paths
  pub ranged : AreInRange (rows_of nodes)
  pub names : NamesOutputs nodes.inputs nodes.outputs

-- the order has each node once, after its inputs
pub record IsGraph (nodes : Nodes) (order : List ℕ) : Type 0 where
  pub sound : IsSound nodes
  pub ordered : IsOrder (rows_of nodes) order

-- why there is no order: a cycle, or want of memory, which may come at any point
abbrev pub IsOrderFault : List (List ℕ) → OrderError → Type 0
IsOrderFault rows Cycle = IsCyclic rows
IsOrderFault rows Memory = Unit {0}

-- the place is that of the item
pub record IsAt (items : List (List ℕ)) (item : List ℕ) (place : ℕ) : Type 0 where
  pub within : place < length items
  pub is : slice_index_or items place [] ≡ item

-- the number of the node with this path, or none where there is no such node
abbrev pub IsNumber : List (List ℕ) → List ℕ → Option ℕ → Type 0
IsNumber paths path None = Contains paths path → ⊥
IsNumber paths path (Some i) = IsAt paths path i
