use Rattle.std.proofs.Common.{◌≡◌, ℕ, ◌<◌, []}
use Rattle.nd_graph.specs.Graphs.{needed}
use Rattle.nd_graph.specs.Orders.{left_of, IsSearch}
use Rattle.nd_graph.proofs.order.visit_all.Given as goal

abbrev pub invariant-loop-root : goal.invariant-loop-root
invariant-loop-root l = record {
  search : IsSearch (needed l.inputs) l.left [] l.order.items;
  trail : l.trail.items ≡ [];
  done : (d : ℕ) → d < l.root → left_of l.left d ≡ 0;
}
