use Rattle.nd_journal.specs.WholeLines.{AreWholeTo}
use Rattle.nd_journal.proofs.cutting.cut_behind.Given as goal

-- the whole lines of what was gone through
abbrev pub invariant-loop-at : goal.invariant-loop-at
invariant-loop-at l = AreWholeTo l.text l.at l.end
