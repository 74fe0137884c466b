use Rattle.std.proofs.Common.{◌≡◌, take}
use Rattle.nd_graph.proofs.graph.copy_needs.Given as goal

abbrev pub invariant-loop-need : goal.invariant-loop-need
invariant-loop-need l = l.copy.items ≡ take l.need-index l.needs
