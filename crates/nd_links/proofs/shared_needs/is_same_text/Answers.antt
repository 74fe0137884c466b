use Rattle.nd_links.proofs.Placing.{same_text}
use Rattle.nd_links.proofs.shared_needs.is_same_text.Goals as goal

pub returns : goal.returns
returns c = same_text c.args.one.now c.args.other.now c.eq.result c.eq.ensures
