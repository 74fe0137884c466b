use Rattle.nd_path_numbers.proofs.Searched.{Searched}
use Rattle.nd_path_numbers.proofs.searching.search.Given as goal

abbrev pub invariant-loop-next : goal.invariant-loop-next
invariant-loop-next l = Searched l.numbers.rows l.held.numbers l.seeds l.found l.next
