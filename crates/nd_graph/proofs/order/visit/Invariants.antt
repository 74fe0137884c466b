use Rattle.std.proofs.Common.{◌<◌, ◌+◌, sum}
use Rattle.nd_graph.specs.Graphs.{needed}
use Rattle.nd_graph.specs.Orders.{input_count, left_of, Advances, IsSearch}
use Rattle.nd_graph.proofs.order.visit.Given as goal

abbrev pub invariant-loop-top : goal.invariant-loop-top
invariant-loop-top l = record {
  search : IsSearch (needed l.inputs) l.left l.trail.items l.order.items;
  advances : Advances l.fn.left l.left;
  met : left_of l.left l.root < input_count (needed l.inputs) l.root + 2;
}

abbrev pub decreases-loop-top : goal.decreases-loop-top
decreases-loop-top l = sum l.left
