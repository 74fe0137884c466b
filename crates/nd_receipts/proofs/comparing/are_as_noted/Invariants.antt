use Rattle.std.proofs.Common.{length}
use Rattle.std.specs.List.{AllZip}
use Rattle.nd_receipts.specs.Noted.{IsNotedBy}
use Rattle.nd_receipts.specs.Standing.{is_flagged}
use Rattle.nd_receipts.proofs.comparing.are_as_noted.Given as goal

abbrev pub invariant-comparing : goal.invariant-comparing
invariant-comparing l =
    (AllZip (IsNotedBy (λ d. is_flagged l.standing d) l.history) l.rest l.left → AllZip (IsNotedBy (λ d. is_flagged l.standing d) l.history) l.fn.receipts l.fn.copies)
    × (AllZip (IsNotedBy (λ d. is_flagged l.standing d) l.history) l.fn.receipts l.fn.copies → AllZip (IsNotedBy (λ d. is_flagged l.standing d) l.history) l.rest l.left)

abbrev pub decreases-comparing : goal.decreases-comparing
decreases-comparing l = length l.rest
