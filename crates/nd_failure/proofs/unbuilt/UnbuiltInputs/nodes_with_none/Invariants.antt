use Rattle.nd_failure.specs.Kept.{AreZeroTo}
use Rattle.nd_failure.proofs.unbuilt.UnbuiltInputs.nodes_with_none.Given as goal

abbrev pub invariant-loop-node : goal.invariant-loop-node
invariant-loop-node l = AreZeroTo l.node l.self l.nodes
