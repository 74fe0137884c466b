use Rattle.nd_history.proofs.Alike.{texts_decide}
use Rattle.nd_history.proofs.sameness.ByteStringSame.is_same.Goals as goal

pub returns : goal.returns
returns c = texts_decide c.args.self.now c.args.other.now c.eq.result c.eq.ensures
