use Rattle.nd_cli.specs.ClassReplies.{IsClassReply}
use Rattle.nd_cli.proofs.Replying.{zip_more}
use Rattle.nd_cli.proofs.asks.replies_about.Goals as goal

pub loop-class-preserved : goal.loop-class-preserved
loop-class-preserved c =
    zip_more (IsClassReply c.args.machines.now c.args.local.now) c.args.firsts.now c.loop-class.replies.items c.push.new.self.items c.loop-class.class c.index-firsts-class.result c.in_ok-reply.reply c.loop-class-test.true c.index-firsts-class.is c.loop-class.invariant (record { is = c.in_ok-reply.ensures }) c.in_ok-push.ensures.items
