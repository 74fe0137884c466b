use Rattle.nd_flags.proofs.RowFacts.{AreSummed-none}
use Rattle.nd_flags.proofs.layers.LayeredFlags.new.Goals as goal

pub invariant_of-result : goal.invariant_of-result
invariant_of-result g c = AreSummed-none _ _ c.args.len c.in_ok-new.ensures c.in_ok-above.ensures
