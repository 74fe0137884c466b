use Rattle.std.proofs.Common.{length}
use Rattle.nd_script.proofs.Texts.{IsReading}
use Rattle.nd_script.proofs.reading.read_text.Given as goal

abbrev pub invariant-loop-left : goal.invariant-loop-left
invariant-loop-left g l = IsReading (g.S.Said.says l.drvs l.machines) l.text l.items.items l.left l.number

abbrev pub decreases-loop-left : goal.decreases-loop-left
decreases-loop-left g l = length l.left
