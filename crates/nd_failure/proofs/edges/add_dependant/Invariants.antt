use Rattle.std.proofs.Common.{take}
use Rattle.nd_failure.specs.Reversed.{AddsDependant}
use Rattle.nd_failure.proofs.edges.add_dependant.Given as goal

abbrev pub invariant-loop-input : goal.invariant-loop-input
invariant-loop-input l = AddsDependant l.node (take l.input-index l.inputs) l.initial.back l.back
