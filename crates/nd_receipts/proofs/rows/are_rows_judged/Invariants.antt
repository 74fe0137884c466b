use Rattle.std.proofs.Common.{length}
use Rattle.nd_receipts.specs.Judged.{AreRowsJudged}
use Rattle.nd_receipts.proofs.rows.are_rows_judged.Given as goal

abbrev pub invariant-comparing : goal.invariant-comparing
invariant-comparing l =
    (AreRowsJudged l.misreports l.rest l.left → AreRowsJudged l.misreports l.fn.rows l.fn.copies)
    × (AreRowsJudged l.misreports l.fn.rows l.fn.copies → AreRowsJudged l.misreports l.rest l.left)

abbrev pub decreases-comparing : goal.decreases-comparing
decreases-comparing l = length l.rest
