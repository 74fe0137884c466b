use Rattle.std.proofs.Common.{◌<◌, ℕ, Bool, true, List, None, Some, length, sym, subst, ap, ◌∙◌}
use Rattle.std.proofs.Math.ListN.{set}
use Rattle.nd_pump.specs.Grouped.{group_in, Readied, IsFirstReadyIn}
use Rattle.nd_pump.specs.Queues.{Queued}
use Rattle.nd_pump.proofs.Keeping.{kept_removed, kept_emptied}
use Rattle.nd_pump.proofs.queue.Queue.remove.Goals as goal

pub invariant_of-self : goal.invariant_of-self
invariant_of-self c =
    kept_removed c.self.inside c.put.new.self c.insert.new.self c.args.drv c.in-Some.first
    (subst (λ (q : Queued). c.args.drv < length q.groups) (sym c.self.view_is) c.requires)
    c.put.ensures
    (subst (λ (g : ℕ). IsFirstReadyIn c.put.new.self g (Some c.in-Some.first))
    (c.group-group.ensures.value ∙ ap (λ (r : Readied). group_in r.groups c.args.drv) c.put.ensures) c.in-Some.ensures)
    (c.insert.ensures ∙ ap (λ (h : List Bool). set h c.in-Some.first true) c.remove.ensures)
    c.self.invariant

pub invariant_of-self-in_default : goal.invariant_of-self-in_default
invariant_of-self-in_default c =
    kept_emptied c.self.inside c.put.new.self c.remove.new.self c.args.drv
    (subst (λ (q : Queued). c.args.drv < length q.groups) (sym c.self.view_is) c.requires)
    c.put.ensures
    (subst (λ (g : ℕ). IsFirstReadyIn c.put.new.self g None)
    (c.group-group.ensures.value ∙ ap (λ (r : Readied). group_in r.groups c.args.drv) c.put.ensures) c.in_default.ensures)
    c.remove.ensures
    c.self.invariant
