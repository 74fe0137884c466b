use Rattle.std.proofs.Common.{take}
use Rattle.nd_failure.specs.Plain.{AreBuilt}
use Rattle.nd_failure.proofs.plain.are_built.Given as goal

abbrev pub invariant-loop-input : goal.invariant-loop-input
invariant-loop-input l = AreBuilt (take l.input-index l.inputs) l.marks
