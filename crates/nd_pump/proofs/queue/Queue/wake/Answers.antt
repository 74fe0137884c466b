use Rattle.std.proofs.Common.{refl}
use Rattle.nd_pump.proofs.Keeping.{kept_woken}
use Rattle.nd_pump.proofs.queue.Queue.wake.Goals as goal

pub invariant_of-self : goal.invariant_of-self
invariant_of-self c =
    kept_woken c.self.inside _ c.insert.new.self c.args.group c.in-Some.first refl c.in-Some.ensures c.insert.ensures c.self.invariant
