use Rattle.std.proofs.Common.{length}
use Rattle.nd_receipts.specs.Noted.{AreRowsNotedBy}
use Rattle.nd_receipts.specs.Standing.{is_flagged}
use Rattle.nd_receipts.proofs.rows.are_rows_noted_by.Given as goal

abbrev pub invariant-comparing : goal.invariant-comparing
invariant-comparing l =
    (AreRowsNotedBy (λ d. is_flagged l.standing d) l.history l.rest l.left → AreRowsNotedBy (λ d. is_flagged l.standing d) l.history l.fn.rows l.fn.copies)
    × (AreRowsNotedBy (λ d. is_flagged l.standing d) l.history l.fn.rows l.fn.copies → AreRowsNotedBy (λ d. is_flagged l.standing d) l.history l.rest l.left)

abbrev pub decreases-comparing : goal.decreases-comparing
decreases-comparing l = length l.rest
