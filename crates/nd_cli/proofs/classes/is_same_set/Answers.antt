use Rattle.nd_cli.proofs.SameClass.{same_set}
use Rattle.nd_cli.proofs.classes.is_same_set.Goals as goal

pub returns : goal.returns
returns c = same_set c.args.one.now c.args.other.now c.eq.result c.eq.ensures
