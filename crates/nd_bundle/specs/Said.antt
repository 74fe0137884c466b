-- The nodes that lines say, as lists with one item per node. Serves proofs alone.
use Rattle.std.specs.Prelude.{◌≡◌, ℕ, Bool, true, false, List, map}
use Rattle.std.specs.List.{AllZip}
use Rattle.nd_graph.specs.Walks.{AreDistinct}
use Rattle.nd_line.specs.Reads.{IsLine}
use Rattle.nd_line.specs.declared.line.LineNode.{LineNode}
use Rattle.nd_links.specs.Columned.{HasDetails}
use Rattle.nd_links.specs.Numbering.{AreNumbersOf}
use Rattle.nd_links.specs.declared.columns.Columns.{Columns}
use Rattle.nd_links.specs.declared.details.Details.{Details}
use Rattle.nd_links.specs.declared.number.Numbers.{Numbers}
use Rattle.nd_bundle.specs.declared.found.Numbered.{Numbered}
use Rattle.nd_bundle.specs.declared.manner.Manner.{Manner}

-- all is kept, for a graph
abbrev pub for_graph : Bool → Manner
for_graph check = record { check = check; whole = true }

-- .. or what the nodes' links and needs are alone
abbrev pub for_needs : Bool → Manner
for_needs check = record { check = check; whole = false }

-- these lines say nodes with these paths and these details
pub record SayRows (manner : Manner) (ls : List (List ℕ)) (paths : List (List ℕ)) (details : Details) : Type 0 where
  pub nodes : List LineNode
  pub says : AllZip (IsLine manner.check) ls nodes
  pub paths_are : paths ≡ map (λ n. n.path) nodes
  pub has : HasDetails manner.whole nodes details

-- .. these columns
pub record SayColumns (manner : Manner) (ls : List (List ℕ)) (columns : Columns) : Type 0 where
  pub rows : SayRows manner ls columns.paths.items columns.details

-- these lines say nodes with these details, and their paths have these numbers
pub record SayNumbers (manner : Manner) (ls : List (List ℕ)) (numbers : Numbers) (details : Details) : Type 0 where
  pub nodes : List LineNode
  pub says : AllZip (IsLine manner.check) ls nodes
  pub numbers_are : AreNumbersOf (map (λ n. n.path) nodes) numbers
  pub has : HasDetails manner.whole nodes details

-- .. each of which stands once
pub record SayNumbered (manner : Manner) (ls : List (List ℕ)) (numbered : Numbered) : Type 0 where
  pub rows : SayRows manner ls numbered.paths.keys numbered.details
  pub distinct : AreDistinct numbered.paths.keys
