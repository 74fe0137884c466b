use Rattle.nd_closure.proofs.Searches.{Search}
use Rattle.nd_closure.proofs.closures.reach.Given as goal

abbrev pub invariant-loop-next : goal.invariant-loop-next
invariant-loop-next l = Search l.table.entries l.seeds l.found.keys l.next
