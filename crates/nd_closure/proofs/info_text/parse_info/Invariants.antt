use Rattle.std.proofs.Common.{length}
use Rattle.nd_closure.proofs.Texts.{IsReading}
use Rattle.nd_closure.proofs.info_text.parse_info.Given as goal

abbrev pub invariant-loop-left : goal.invariant-loop-left
invariant-loop-left l = IsReading l.text l.table.entries l.left l.number

abbrev pub decreases-loop-left : goal.decreases-loop-left
decreases-loop-left l = length l.left
