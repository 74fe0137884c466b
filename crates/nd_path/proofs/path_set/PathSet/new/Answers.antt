use Rattle.nd_path.proofs.Searches.{rising_empty}
use Rattle.nd_path.proofs.path_set.PathSet.new.Goals as goal

pub invariant_of-result : goal.invariant_of-result
invariant_of-result c = rw c.new.ensures.items rising_empty
