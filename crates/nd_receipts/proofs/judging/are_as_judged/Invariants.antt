use Rattle.std.proofs.Common.{length}
use Rattle.std.specs.List.{AllZip}
use Rattle.nd_receipts.specs.Judged.{IsJudgedIn}
use Rattle.nd_receipts.proofs.judging.are_as_judged.Given as goal

abbrev pub invariant-comparing : goal.invariant-comparing
invariant-comparing l =
    (AllZip (IsJudgedIn l.misreports) l.rest l.left → AllZip (IsJudgedIn l.misreports) l.fn.receipts l.fn.copies)
    × (AllZip (IsJudgedIn l.misreports) l.fn.receipts l.fn.copies → AllZip (IsJudgedIn l.misreports) l.rest l.left)

abbrev pub decreases-comparing : goal.decreases-comparing
decreases-comparing l = length l.rest
