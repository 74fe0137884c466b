use Rattle.nd_links.proofs.Placing.{same_set}
use Rattle.nd_links.proofs.shared_needs.is_same_set.Goals as goal

pub returns : goal.returns
returns c = same_set c.args.one.now c.args.other.now c.eq.result c.eq.ensures
