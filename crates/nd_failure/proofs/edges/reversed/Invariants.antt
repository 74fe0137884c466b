use Rattle.nd_failure.specs.Reversed.{AreReversedTo}
use Rattle.nd_failure.proofs.edges.reversed.Given as goal

abbrev pub invariant-loop-node : goal.invariant-loop-node
invariant-loop-node l = AreReversedTo l.node l.rows l.back
