use Rattle.nd_closure.proofs.SameLines.{paths_decide}
use Rattle.nd_history.proofs.sameness.StorePathSame.is_same.Goals as goal

pub returns : goal.returns
returns c = paths_decide c.args.self.now c.args.other.now c.eq.result c.eq.ensures
