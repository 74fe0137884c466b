-- What the derivations of a bundle need. Cited by the clauses of `NeedsReader`.
use Rattle.std.specs.Prelude.{ℕ, Bool, List}
use Rattle.nd_bundle.specs.Bundles.{IsBundle}
use Rattle.nd_links.specs.Placing.{ArePlaced, Placed}
use Rattle.nd_graph.specs.Graphs.{Nodes}

-- the text is the bundle of a graph, whose derivations have these needs, in their order
pub record HasNeeds (check : Bool) (text : List ℕ) (needs : Placed) : Type 0 where
  pub graph : Nodes
  pub bundle : IsBundle check text graph
  pub placed : ArePlaced needs.table needs.places graph.needs
