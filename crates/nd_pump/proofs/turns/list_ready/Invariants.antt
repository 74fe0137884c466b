use Rattle.nd_pump.specs.Listing.{ListsTo}
use Rattle.nd_pump.proofs.turns.list_ready.Given as goal

abbrev pub invariant-loop-drv : goal.invariant-loop-drv
invariant-loop-drv l = ListsTo l.board l.drv l.fn.queue l.queue
