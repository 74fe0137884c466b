use Rattle.std.proofs.Common.{◌≡◌, ◌<◌, ◌≤◌, ◌+◌, length, sum}
use Rattle.nd_graph.specs.Graphs.{needed}
use Rattle.nd_graph.specs.Orders.{input_count, left_of, Advances, KeepsSearch}
use Rattle.nd_graph.proofs.order.pass_done.Given as goal

-- the inputs of the node so far are passed
abbrev pub invariant-loop-next : goal.invariant-loop-next
invariant-loop-next l = record {
  search : KeepsSearch (needed l.inputs) l.top l.fn.left l.left;
  advances : Advances l.fn.left l.left;
  smaller : sum l.left ≤ sum l.fn.left;
  sized : length l.left ≡ length l.inputs;
  some : 0 < left_of l.left l.top;
  few : left_of l.left l.top < input_count (needed l.inputs) l.top + 2;
}

abbrev pub decreases-loop-next : goal.decreases-loop-next
decreases-loop-next l = left_of l.left l.top
