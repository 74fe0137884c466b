use Rattle.std.proofs.Common.{reverse, subst}
use Rattle.nd_ledger.specs.Refusals.{IsLive}
use Rattle.nd_ledger.proofs.Keeping.{kept_started, kept_room, kept_stores, allowed_begun, allowed_seen, can_turn, same_turn}
use Rattle.nd_ledger.specs.Worlds.{World}
use Rattle.nd_history.specs.declared.entry.Entry.TheVariants.{Started}
use Rattle.nd_ledger.proofs.dispatch.Dispatch.started.Goals as goal

pub invariant_of-self : goal.invariant_of-self
invariant_of-self c =
    kept_started c.self.inside c.prepare_start.new.book c.enter.new.self c.prepare_start.new.stores c.take_in.new.self c.args.ticket c.args.paths c.in-Ok.additions
    c.in-Ok.ensures.book c.enter.ensures
    c.self.invariant c.in-Ok.ensures.stores c.in-Ok.ensures.ready c.take_in.ensures

pub returns-in-Ok-clause-live : goal.returns-in-Ok-clause-live
returns-in-Ok-clause-live c =
    let P = λ (w : World). IsLive (reverse w.history) c.args.ticket in
    subst P c.self.view_is c.in-Ok.ensures.ready.live

pub returns-in-Ok-clause-allowed : goal.returns-in-Ok-clause-allowed
returns-in-Ok-clause-allowed c =
    let d = c.self.inside in
    allowed_seen d _ (Started c.args.ticket.drv c.args.paths) c.self.view_is (allowed_begun d c.args.ticket c.args.paths _ _ _ c.self.invariant c.in-Ok.ensures.ready)

pub enter-requires-clause-turn : goal.enter-requires-clause-turn
enter-requires-clause-turn c =
    let d = c.self.inside in
    same_turn d.state c.prepare_start.new.book (Started c.args.ticket.drv c.args.paths) c.in-Ok.ensures.book.entries
    (can_turn d (Started c.args.ticket.drv c.args.paths) c.self.invariant (allowed_begun d c.args.ticket c.args.paths _ _ _ c.self.invariant c.in-Ok.ensures.ready))

pub invariant_of-self-in-Err : goal.invariant_of-self-in-Err
invariant_of-self-in-Err c =
    let d = c.self.inside in
    let roomy = kept_room d c.prepare_start.new.book c.in-Err.ensures.book c.self.invariant in
    kept_stores (record d { state = record d.state { book = c.prepare_start.new.book } }) c.prepare_start.new.stores c.in-Err.ensures.stores roomy
