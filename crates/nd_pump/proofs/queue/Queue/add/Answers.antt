use Rattle.std.proofs.Common.{◌<◌, length, sym, subst}
use Rattle.nd_pump.specs.Queues.{Queued}
use Rattle.nd_pump.proofs.Keeping.{kept_added}
use Rattle.nd_pump.proofs.queue.Queue.add.Goals as goal

pub invariant_of-self : goal.invariant_of-self
invariant_of-self c =
    kept_added c.self.inside c.put.new.self c.insert.new.self c.args.drv
    (subst (λ (q : Queued). c.args.drv < length q.groups) (sym c.self.view_is) c.requires)
    c.put.ensures c.insert.ensures c.self.invariant
