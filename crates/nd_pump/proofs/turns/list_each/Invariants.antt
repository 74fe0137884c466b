use Rattle.nd_pump.proofs.Listing.{ListsFirst}
use Rattle.nd_pump.proofs.turns.list_each.Given as goal

abbrev pub invariant-loop-drv : goal.invariant-loop-drv
invariant-loop-drv l = ListsFirst l.board l.drvs l.drv-index l.fn.queue l.queue
