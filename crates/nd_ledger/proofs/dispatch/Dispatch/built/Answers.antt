use Rattle.std.proofs.Common.{reverse, subst}
use Rattle.nd_ledger.proofs.Keeping.{kept_built, kept_stores, allowed_ended, allowed_seen, can_mark, can_turn}
use Rattle.nd_ledger.specs.Worlds.{World}
use Rattle.nd_history.specs.declared.entry.Entry.TheVariants.{Built}
use Rattle.nd_ledger.specs.Refusals.{IsLive}
use Rattle.nd_ledger.proofs.dispatch.Dispatch.built.Goals as goal

pub invariant_of-self : goal.invariant_of-self
invariant_of-self c =
    kept_built c.self.inside c.enter.new.self c.prepare_end.new.stores c.take_in.new.self c.args.ticket c.args.refs c.in-Ok.additions
    c.enter.ensures
    c.self.invariant c.in-Ok.ensures.stores c.in-Ok.ensures.ready c.take_in.ensures

pub returns-in-Ok-clause-live : goal.returns-in-Ok-clause-live
returns-in-Ok-clause-live c =
    let P = λ (w : World). IsLive (reverse w.history) c.args.ticket in
    subst P c.self.view_is c.in-Ok.ensures.ready.live

pub returns-in-Ok-clause-allowed : goal.returns-in-Ok-clause-allowed
returns-in-Ok-clause-allowed c =
    let d = c.self.inside in
    allowed_seen d _ (Built c.args.ticket.drv c.args.refs) c.self.view_is (allowed_ended d c.args.ticket c.args.refs _ _ c.self.invariant c.in-Ok.ensures.ready)

pub enter-requires-clause-can : goal.enter-requires-clause-can
enter-requires-clause-can c =
    let d = c.self.inside in
    can_mark d (Built c.args.ticket.drv c.args.refs) c.self.invariant (allowed_ended d c.args.ticket c.args.refs _ _ c.self.invariant c.in-Ok.ensures.ready)

pub enter-requires-clause-turn : goal.enter-requires-clause-turn
enter-requires-clause-turn c =
    let d = c.self.inside in
    can_turn d (Built c.args.ticket.drv c.args.refs) c.self.invariant (allowed_ended d c.args.ticket c.args.refs _ _ c.self.invariant c.in-Ok.ensures.ready)

pub invariant_of-self-in-Err : goal.invariant_of-self-in-Err
invariant_of-self-in-Err c = kept_stores c.self.inside c.prepare_end.new.stores c.in-Err.ensures.stores c.self.invariant
