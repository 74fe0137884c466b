use Rattle.nd_cli.proofs.SameClass.{one_met}
use Rattle.nd_cli.proofs.classes.Classes.of.Goals as goal

pub loop-drv-preserved : goal.loop-drv-preserved
loop-drv-preserved c =
    one_met c.args.needs.now c.loop-drv.drv c.loop-drv.known.firsts.items c.meet.new.self.firsts.items c.loop-drv.members.items c.push.new.self.items c.in_ok-class.class c.loop-drv.invariant c.in_ok-class.ensures c.in_ok-push.ensures.items
