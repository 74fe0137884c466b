use Rattle.nd_closure.proofs.SameLines.{sets_decide}
use Rattle.nd_history.proofs.sameness.PathSetSame.is_same.Goals as goal

pub returns : goal.returns
returns c = sets_decide c.args.self.now c.args.other.now c.eq.result c.eq.ensures
