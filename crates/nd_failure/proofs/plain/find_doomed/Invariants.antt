use Rattle.nd_failure.specs.Plain.{AreDoomedTo}
use Rattle.nd_failure.proofs.plain.find_doomed.Given as goal

abbrev pub invariant-loop-node : goal.invariant-loop-node
invariant-loop-node l = AreDoomedTo l.node-index l.order l.inputs l.marks l.doomed
