-- What was read of the lines, put together. Serves proofs alone.
use Rattle.std.specs.Prelude.{◌≡◌, ℕ, ◌<◌, ◌≤◌, List, [], length, Contains}
use Rattle.std.specs.List.{slice_index_or}
use Rattle.std.specs.List.Sorted.{IsStrictlySortedBy}
use Rattle.nd_bytes.specs.Compared.{bytes_cmp}
use Rattle.nd_links.specs.Placing.{Placed}
use Rattle.nd_line.specs.declared.line.LineNode.{LineNode}
use Rattle.nd_line.specs.declared.line.NamedInput.{NamedInput}
use Rattle.nd_links.specs.declared.fault.GraphError.{GraphError}
use Rattle.nd_links.specs.declared.fault.GraphError.TheVariants.{MissingInput, MissingOutput, Cycle, TooMany, Memory}
use Rattle.nd_links.specs.declared.details.Details.{Details}
use Rattle.nd_graph.specs.declared.graph.Input.{Input}
use Rattle.nd_graph.specs.Graphs.{Nodes, needed, node_limit, IsOrderFault}
use Rattle.nd_graph.specs.Walks.{IsAcyclic}
use Rattle.nd_graph.specs.declared.fault.OrderError.TheVariants as order
use Rattle.nd_links.specs.Whole.{AllNumbered, AreInputsThere, IsMissingInput, IsMissingOutput, Links}

-- a list of names that rises
pub record NamesRise (names : List (List ℕ)) : Type 0 where
  pub rises : IsStrictlySortedBy bytes_cmp names

-- the names of each node rise
pub record AllNamesRise (names : List (List (List ℕ))) : Type 0 where
  pub rise : (d : ℕ) → d < length names → NamesRise (slice_index_or names d [])

-- each node has as many output names as output paths
pub record ArePaired (names : List (List (List ℕ))) (outputs : List (List (List ℕ))) : Type 0 where
  pub sized : length names ≡ length outputs
  pub paired : (d : ℕ) → length (slice_index_or names d []) ≡ length (slice_index_or outputs d [])

-- the node has as many output names as output paths, and its output names rise
pub record IsFit (node : LineNode) : Type 0 where
  pub paired : length node.output_names ≡ length node.outputs
  pub rising : NamesRise node.output_names

-- each of the nodes is so
pub record AreFit (nodes : List LineNode) : Type 0 where
  pub fit : (node : LineNode) → Contains nodes node → IsFit node

-- the lists have one item per node
pub record AreSized (paths : List (List ℕ)) (details : Details) : Type 0 where
  pub needs : length details.needs.items ≡ length paths
  pub wants : length details.wants.items ≡ length paths
  pub sources : length details.sources.items ≡ length paths
  pub names : length details.names.items ≡ length paths
  pub outputs : length details.outputs.items ≡ length paths

-- .. the lists of what lines say of links
pub record AreLinksSized (paths : List (List ℕ)) (details : Details) : Type 0 where
  pub wants : length details.wants.items ≡ length paths
  pub names : length details.names.items ≡ length paths

-- the needs of nodes with these paths and these details, of which there is a graph
pub record AreNeedsOfRows (paths : List (List ℕ)) (details : Details) (needs : Placed) : Type 0 where
  pub table : needs.table ≡ details.shared.table.items
  pub places : needs.places ≡ details.shared.places.items
  pub inputs : List (List Input)
  pub numbered : AllNumbered paths details.names.items details.wants.items inputs
  pub acyclic : IsAcyclic (needed inputs)
  pub few : length paths ≤ node_limit

-- the graph of nodes with these paths and these details
pub record IsGraphOfRows (paths : List (List ℕ)) (details : Details) (graph : Nodes) : Type 0 where
  pub paths_are : graph.paths ≡ paths
  pub needs : graph.needs ≡ details.needs.items
  pub inputs : AllNumbered paths details.names.items details.wants.items graph.inputs
  pub sources : graph.sources ≡ details.sources.items
  pub outputs : graph.outputs ≡ details.outputs.items

-- what they say of the links between the nodes
abbrev pub links_in : List (List ℕ) → Details → Links
links_in paths details = record { paths = paths; wants = details.wants.items; names = details.names.items }

-- all inputs and named outputs are there, by number
pub record IsResolved (paths : List (List ℕ)) (names : List (List (List ℕ))) (wants : List (List NamedInput)) (rows : List (List Input)) : Type 0 where
  pub there : AreInputsThere paths wants
  pub numbered : AllNumbered paths names wants rows

-- an input or an output is missing, first on this line, or memory is wanting
abbrev pub IsLinkFault : List (List ℕ) → List (List (List ℕ)) → List (List NamedInput) → GraphError → Type 0
IsLinkFault paths names wants (MissingInput line) = IsMissingInput paths wants line
IsLinkFault paths names wants (MissingOutput line) = AreInputsThere paths wants × IsMissingOutput paths names wants line
IsLinkFault paths names wants Memory = Unit {0}
IsLinkFault paths names wants _ = ⊥

-- some node needs itself, or there are too many nodes, none of which does, or memory is wanting
abbrev pub IsOrderedFault : List (List ℕ) → List (List Input) → GraphError → Type 0
IsOrderedFault paths rows Cycle = IsOrderFault (needed rows) order.Cycle
IsOrderedFault paths rows TooMany = IsAcyclic (needed rows) × (node_limit < length paths)
IsOrderedFault paths rows Memory = Unit {0}
IsOrderedFault paths rows _ = ⊥
