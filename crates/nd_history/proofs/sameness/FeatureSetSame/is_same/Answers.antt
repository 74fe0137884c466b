use Rattle.nd_history.proofs.Alike.{features_decide}
use Rattle.nd_history.proofs.sameness.FeatureSetSame.is_same.Goals as goal

pub returns : goal.returns
returns c = features_decide c.args.self.now c.args.other.now c.eq.result c.eq.ensures
