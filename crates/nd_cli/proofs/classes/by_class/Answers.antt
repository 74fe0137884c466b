use Rattle.nd_cli.proofs.SameClass.{one_made}
use Rattle.nd_cli.proofs.classes.by_class.Goals as goal

pub loop-number-preserved : goal.loop-number-preserved
loop-number-preserved g c =
    one_made c.args.made.now c.args.members.now c.loop-number.all.items c.push.new.self.items c.loop-number.number _ c.index-made-class.result c.loop-number-test.true c.requires.made c.loop-number.invariant c.index-made-class.is c.in_ok-push.ensures.items
