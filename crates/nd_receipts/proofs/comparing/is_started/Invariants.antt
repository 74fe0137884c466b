use Rattle.std.proofs.Common.{◌≡◌, length, reverse}
use Rattle.nd_history.specs.History.{is_started}
use Rattle.nd_receipts.proofs.comparing.is_started.Given as goal

abbrev pub invariant-searching : goal.invariant-searching
invariant-searching l = is_started l.drv (reverse l.past) ≡ is_started l.drv (reverse l.rest)

abbrev pub decreases-searching : goal.decreases-searching
decreases-searching l = length l.rest
