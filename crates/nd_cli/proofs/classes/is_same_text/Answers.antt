use Rattle.nd_cli.proofs.SameClass.{same_text}
use Rattle.nd_cli.proofs.classes.is_same_text.Goals as goal

pub returns : goal.returns
returns c = same_text c.args.one.now c.args.other.now c.eq.result c.eq.ensures
