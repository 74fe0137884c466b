-- What lines say of nodes, as lists with one item per node. Serves proofs alone.
use Rattle.std.specs.Prelude.{◌≡◌, ℕ, ◌++◌, Bool, true, false, List, map}
use Rattle.nd_eligible.specs.declared.need.Need.{Need}
use Rattle.nd_line.specs.declared.line.LineNode.{LineNode}
use Rattle.nd_links.specs.Placing.{ArePlaced}
use Rattle.nd_links.specs.declared.columns.Columns.{Columns}
use Rattle.nd_links.specs.declared.details.Details.{Details}

-- where all is kept, these paths are; else nothing is said of them
abbrev pub AreKept : Bool → List (List (List ℕ)) → List (List (List ℕ)) → Type 0
AreKept true kept said = kept ≡ said
AreKept false kept said = Unit {0}

-- the needs are these, one for each node or, where not all is kept, at their places in a table
abbrev pub AreNeeds : Bool → Details → List Need → Type 0
AreNeeds true details said = details.needs.items ≡ said
AreNeeds false details said = ArePlaced details.shared.table.items details.shared.places.items said

-- what is said of these nodes beside their paths
pub record HasDetails (whole : Bool) (nodes : List LineNode) (details : Details) : Type 0 where
  pub needs : AreNeeds whole details (map (λ n. n.need) nodes)
  pub wants : details.wants.items ≡ map (λ n. n.inputs) nodes
  pub sources : AreKept whole details.sources.items (map (λ n. n.sources) nodes)
  pub names : details.names.items ≡ map (λ n. n.output_names) nodes
  pub outputs : AreKept whole details.outputs.items (map (λ n. n.outputs) nodes)

-- the columns have these nodes
pub record HasColumns (whole : Bool) (nodes : List LineNode) (columns : Columns) : Type 0 where
  pub paths : columns.paths.items ≡ map (λ n. n.path) nodes
  pub details : HasDetails whole nodes columns.details

-- the nodes are as they were
pub record HasSameNodes (old new : Details) : Type 0 where
  pub has : (whole : Bool) (nodes : List LineNode) → HasDetails whole nodes old → HasDetails whole nodes new

-- the nodes of the others stand behind the old ones
pub record IsAppended (old others new : Details) : Type 0 where
  pub has : (whole : Bool) (some more : List LineNode) → HasDetails whole some old → HasDetails whole more others → HasDetails whole (some ++ more) new
