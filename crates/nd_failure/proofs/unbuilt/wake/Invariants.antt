use Rattle.std.proofs.Common.{take}
use Rattle.nd_failure.specs.Kept.{AreWoken}
use Rattle.nd_failure.proofs.unbuilt.wake.Given as goal

abbrev pub invariant-loop-node : goal.invariant-loop-node
invariant-loop-node l = AreWoken (take l.node-index l.nodes) l.unbuilt l.initial.ready l.ready
