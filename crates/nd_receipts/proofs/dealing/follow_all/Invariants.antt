use Rattle.std.proofs.Common.{length}
use Rattle.nd_receipts.proofs.Crossings.{HasSeeded}
use Rattle.nd_receipts.proofs.dealing.follow_all.Given as goal

abbrev pub invariant-following : goal.invariant-following
invariant-following l = HasSeeded l.places l.old (length l.initial.choices.items) l.entry-index l.choices.items
