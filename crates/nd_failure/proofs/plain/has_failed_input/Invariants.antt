use Rattle.std.proofs.Common.{take}
use Rattle.nd_failure.specs.Plain.{HasFailedInput}
use Rattle.nd_failure.proofs.plain.has_failed_input.Given as goal

abbrev pub invariant-loop-input : goal.invariant-loop-input
invariant-loop-input l = HasFailedInput (take l.input-index l.inputs) l.marks l.doomed → ⊥
