-- When the lines of a bundle, each of which says a node, are no graph together: the refusals over the whole, in their order
-- (this project's own choice); and their graph, where they are one. Nodes are numbered in the order of the lines. Cited by the
-- readers' clauses, through what a bundle is.
use Rattle.std.specs.Prelude.{◌≡◌, ℕ, ◌+◌, ◌<◌, List, [], ◌∷◌, ◌++◌, length, map, Contains}
use Rattle.std.specs.List.{slice_index_or, AllZip}
use Rattle.nd_line.specs.declared.line.NamedInput.{NamedInput}
use Rattle.nd_line.specs.declared.line.LineNode.{LineNode}
use Rattle.nd_graph.specs.declared.graph.Input.{Input}
use Rattle.nd_links.specs.declared.fault.GraphError.{GraphError}
use Rattle.nd_links.specs.declared.fault.GraphError.TheVariants.{Duplicate, MissingInput, MissingOutput, Cycle, TooMany, Memory}
use Rattle.nd_graph.specs.Graphs.{Nodes, needed, node_limit, IsAt}
use Rattle.nd_graph.specs.Walks.{AreDistinct, IsAcyclic, IsCyclic}

-- what the lines say of the links between them: node i has the item at i of each list
pub record Links : Type 0 where
  -- each derivation's path
  pub paths : List (List ℕ)
  -- the input derivations of each, with the outputs that it names of them
  pub wants : List (List NamedInput)
  -- the names of the outputs of each
  pub names : List (List (List ℕ))

abbrev pub links_of : List LineNode → Links
links_of nodes = record { paths = map (λ n. n.path) nodes; wants = map (λ n. n.inputs) nodes; names = map (λ n. n.output_names) nodes }

-- the first line whose path stood before
pub record IsRepeat (paths : List (List ℕ)) (line : ℕ) : Type 0 where
  pub before : List (List ℕ)
  pub path : List ℕ
  pub behind : List (List ℕ)
  pub parts : paths ≡ before ++ path ∷ behind
  pub distinct : AreDistinct before
  pub again : Contains before path
  pub number : line ≡ length before + 1

-- each input derivation has a line
pub record HasInputs (paths : List (List ℕ)) (wants : List NamedInput) : Type 0 where
  pub there : (w : NamedInput) → Contains wants w → Contains paths w.path

-- some input derivation has no line
pub record LacksInput (paths : List (List ℕ)) (wants : List NamedInput) : Type 0 where
  pub want : NamedInput
  pub asked : Contains wants want
  pub missing : Contains paths want.path → ⊥

-- the first line with an input derivation that has no line
pub record IsMissingInput (paths : List (List ℕ)) (wants : List (List NamedInput)) (line : ℕ) : Type 0 where
  pub place : ℕ
  pub within : place < length wants
  pub before : (d : ℕ) → d < place → HasInputs paths (slice_index_or wants d [])
  pub lacks : LacksInput paths (slice_index_or wants place [])
  pub number : line ≡ place + 1

-- each input derivation of each line has a line
pub record AreInputsThere (paths : List (List ℕ)) (wants : List (List NamedInput)) : Type 0 where
  pub there : (d : ℕ) → d < length wants → HasInputs paths (slice_index_or wants d [])

-- the derivation with this path has an output of this name
pub record HasOutput (paths : List (List ℕ)) (names : List (List (List ℕ))) (path name : List ℕ) : Type 0 where
  pub node : ℕ
  pub within : node < length paths
  pub is : slice_index_or paths node [] ≡ path
  pub has : Contains (slice_index_or names node []) name

-- each output that is named of an input derivation is one of it
pub record HasOutputs (paths : List (List ℕ)) (names : List (List (List ℕ))) (wants : List NamedInput) : Type 0 where
  pub there : (w : NamedInput) (name : List ℕ) → Contains wants w → Contains w.names name → HasOutput paths names w.path name

-- some output that is named of this input derivation is none of it
pub record LacksName (paths : List (List ℕ)) (names : List (List (List ℕ))) (want : NamedInput) : Type 0 where
  pub name : List ℕ
  pub node : ℕ
  pub named : Contains want.names name
  pub within : node < length paths
  pub is : slice_index_or paths node [] ≡ want.path
  pub missing : Contains (slice_index_or names node []) name → ⊥

-- some output that is named of an input derivation is none of it
pub record LacksOutput (paths : List (List ℕ)) (names : List (List (List ℕ))) (wants : List NamedInput) : Type 0 where
  pub want : NamedInput
  pub asked : Contains wants want
  pub lacks : LacksName paths names want

-- the first line that names an output that its input derivation doesn't have
pub record IsMissingOutput (paths : List (List ℕ)) (names : List (List (List ℕ))) (wants : List (List NamedInput)) (line : ℕ) : Type 0 where
  pub place : ℕ
  pub within : place < length wants
  pub before : (d : ℕ) → d < place → HasOutputs paths names (slice_index_or wants d [])
  pub lacks : LacksOutput paths names (slice_index_or wants place [])
  pub number : line ≡ place + 1

-- each output that is named on a line is one of the derivation that it is named of
pub record AreOutputsThere (paths : List (List ℕ)) (names : List (List (List ℕ))) (wants : List (List NamedInput)) : Type 0 where
  pub there : (d : ℕ) → d < length wants → HasOutputs paths names (slice_index_or wants d [])

-- the places are those of the wanted items
pub record ArePlaces (items wanted : List (List ℕ)) (places : List ℕ) : Type 0 where
  pub each : AllZip (IsAt items) wanted places

-- an input by number: the node is that of the path, the places are those of the names
pub record IsNumbered (paths : List (List ℕ)) (names : List (List (List ℕ))) (want : NamedInput) (input : Input) : Type 0 where
  pub node : IsAt paths want.path input.node
  pub outputs : ArePlaces (slice_index_or names input.node []) want.names input.outputs

-- the inputs of a node by number
pub record AreNumbered (paths : List (List ℕ)) (names : List (List (List ℕ))) (wants : List NamedInput) (inputs : List Input) : Type 0 where
  pub each : AllZip (IsNumbered paths names) wants inputs

-- the inputs of all nodes by number
pub record AllNumbered (paths : List (List ℕ)) (names : List (List (List ℕ))) (wants : List (List NamedInput)) (inputs : List (List Input)) : Type 0 where
  pub each : AllZip (AreNumbered paths names) wants inputs

-- every path stands once, and every input and output that is named is there
pub record IsLinked (links : Links) : Type 0 where
  pub distinct : AreDistinct links.paths
  pub inputs : AreInputsThere links.paths links.wants
  pub outputs : AreOutputsThere links.paths links.names links.wants

-- some derivation needs itself
pub record IsCycle (links : Links) : Type 0 where
  pub linked : IsLinked links
  pub inputs : List (List Input)
  pub numbered : AllNumbered links.paths links.names links.wants inputs
  pub cyclic : IsCyclic (needed inputs)

-- there are too many derivations, none of which needs itself
pub record IsTooMany (links : Links) : Type 0 where
  pub linked : IsLinked links
  pub inputs : List (List Input)
  pub numbered : AllNumbered links.paths links.names links.wants inputs
  pub acyclic : IsAcyclic (needed inputs)
  pub many : node_limit < length links.paths

-- When the nodes are no graph, with the first cause. Want of memory may come at any point.
abbrev pub IsWholeFault : Links → GraphError → Type 0
IsWholeFault links (Duplicate line) = IsRepeat links.paths line
IsWholeFault links (MissingInput line) = AreDistinct links.paths × IsMissingInput links.paths links.wants line
IsWholeFault links (MissingOutput line) = AreDistinct links.paths × AreInputsThere links.paths links.wants × IsMissingOutput links.paths links.names links.wants line
IsWholeFault links Cycle = IsCycle links
IsWholeFault links TooMany = IsTooMany links
IsWholeFault links Memory = Unit {0}
IsWholeFault links _ = ⊥

-- the graph has the nodes that the lines say
pub record IsGraphOf (nodes : List LineNode) (graph : Nodes) : Type 0 where
  pub paths : graph.paths ≡ map (λ n. n.path) nodes
  pub needs : graph.needs ≡ map (λ n. n.need) nodes
  pub inputs : AllNumbered (map (λ n. n.path) nodes) (map (λ n. n.output_names) nodes) (map (λ n. n.inputs) nodes) graph.inputs
  pub sources : graph.sources ≡ map (λ n. n.sources) nodes
  pub outputs : graph.outputs ≡ map (λ n. n.outputs) nodes
