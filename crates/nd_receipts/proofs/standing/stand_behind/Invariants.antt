use Rattle.std.proofs.Common.{length}
use Rattle.nd_receipts.proofs.Standings.{StandsAt}
use Rattle.nd_receipts.proofs.standing.stand_behind.Given as goal

abbrev pub invariant-following : goal.invariant-following
invariant-following l = StandsAt l.old (length l.initial.standing.leased.items) l.entry-index l.standing.leased.items l.standing.started.items
