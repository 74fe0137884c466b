use Rattle.nd_history.proofs.Alike.{machines_decide}
use Rattle.nd_history.proofs.sameness.MachineSame.is_same.Goals as goal

pub returns : goal.returns
returns c = machines_decide c.args.self.now c.args.other.now c.eq.result c.eq.ensures
