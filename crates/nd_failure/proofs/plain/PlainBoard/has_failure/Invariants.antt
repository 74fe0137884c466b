use Rattle.std.proofs.Common.{take}
use Rattle.nd_failure.specs.Progress.{HasFailure}
use Rattle.nd_failure.proofs.plain.PlainBoard.has_failure.Given as goal

abbrev pub invariant-loop-mark : goal.invariant-loop-mark
invariant-loop-mark l = HasFailure (take l.mark-index l.marks) → ⊥
