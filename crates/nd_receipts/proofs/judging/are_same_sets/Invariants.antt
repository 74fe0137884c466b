use Rattle.std.proofs.Common.{◌≡◌, take}
use Rattle.nd_receipts.proofs.judging.are_same_sets.Given as goal

abbrev pub invariant-loop-i : goal.invariant-loop-i
invariant-loop-i l = take l.i l.sets ≡ take l.i l.others
