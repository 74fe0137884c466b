use Rattle.std.proofs.Common.{◌≡◌, take}
use Rattle.nd_graph.proofs.graph.copy_row.Given as goal

abbrev pub invariant-loop-input : goal.invariant-loop-input
invariant-loop-input l = l.copy.items ≡ take l.input-index l.inputs
