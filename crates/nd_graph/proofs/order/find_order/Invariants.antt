use Rattle.std.proofs.Common.{◌≡◌, ◌+◌, length, map, take}
use Rattle.nd_graph.proofs.order.find_order.Given as goal

abbrev pub invariant-loop-row : goal.invariant-loop-row
invariant-loop-row l = l.left.items ≡ map (λ row. length row + 2) (take l.row-index l.inputs)
