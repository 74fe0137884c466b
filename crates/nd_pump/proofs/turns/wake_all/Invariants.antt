use Rattle.nd_pump.proofs.Listing.{WakesFirst}
use Rattle.nd_pump.proofs.turns.wake_all.Given as goal

abbrev pub invariant-loop-group : goal.invariant-loop-group
invariant-loop-group l = WakesFirst l.groups l.group-index l.fn.queue l.queue
