use Rattle.std.proofs.Common.{rules, ◌≡◌, reverse, false}
use Rattle.nd_ledger.specs.Refusals.{IsLive}
use Rattle.nd_history.specs.History.{is_started}
use Rattle.nd_ledger.proofs.Keeping.{kept_down, fit_kept, allowed_seen, can_mark, can_turn}
use Rattle.nd_ledger.proofs.Tickets.{live_in_book}
use Rattle.nd_history.specs.Premises.{premises_of}
use Rattle.nd_history.specs.declared.entry.Entry.TheVariants.{Down}
use Rattle.nd_ledger.proofs.Admitting.{allowed_down}
use Rattle.nd_ledger.proofs.dispatch.Dispatch.down.Goals as goal

pub invariant_of-self : goal.invariant_of-self
invariant_of-self c =
    let found : IsLive (reverse c.self.inside.state.book.entries) c.args.ticket = search rules in
    let fresh : is_started c.args.ticket.drv (reverse c.self.inside.state.book.entries) ≡ false = search rules in
    kept_down c.self.inside c.enter.new.self c.args.ticket c.enter.ensures c.self.invariant found fresh

pub is_started-requires : goal.is_started-requires
is_started-requires c =
    let d = c.self.inside in
    let found : IsLive (reverse d.state.book.entries) c.args.ticket = search rules in
    live_in_book (premises_of d.inputs) d.state.book c.args.ticket (fit_kept d c.self.invariant) found

pub returns-clause-allowed : goal.returns-clause-allowed
returns-clause-allowed c =
    let d = c.self.inside in
    let found : IsLive (reverse d.state.book.entries) c.args.ticket = search rules in
    let fresh : is_started c.args.ticket.drv (reverse d.state.book.entries) ≡ false = search rules in
    allowed_seen d _ (Down c.args.ticket.drv) c.self.view_is (allowed_down (premises_of d.inputs) (reverse d.state.book.entries) c.args.ticket c.self.invariant.legal found fresh)

pub enter-requires-clause-can : goal.enter-requires-clause-can
enter-requires-clause-can c =
    let d = c.self.inside in
    let found : IsLive (reverse d.state.book.entries) c.args.ticket = search rules in
    let fresh : is_started c.args.ticket.drv (reverse d.state.book.entries) ≡ false = search rules in
    can_mark d (Down c.args.ticket.drv) c.self.invariant (allowed_down (premises_of d.inputs) (reverse d.state.book.entries) c.args.ticket c.self.invariant.legal found fresh)

pub enter-requires-clause-turn : goal.enter-requires-clause-turn
enter-requires-clause-turn c =
    let d = c.self.inside in
    let found : IsLive (reverse d.state.book.entries) c.args.ticket = search rules in
    let fresh : is_started c.args.ticket.drv (reverse d.state.book.entries) ≡ false = search rules in
    can_turn d (Down c.args.ticket.drv) c.self.invariant (allowed_down (premises_of d.inputs) (reverse d.state.book.entries) c.args.ticket c.self.invariant.legal found fresh)
