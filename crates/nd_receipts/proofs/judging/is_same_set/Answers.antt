use Rattle.nd_closure.proofs.SameLines.{sets_decide}
use Rattle.nd_receipts.proofs.judging.is_same_set.Goals as goal

pub returns : goal.returns
returns c = sets_decide c.args.set.now c.args.other.now c.eq.result c.eq.ensures
