use Rattle.std.proofs.Common.{rules, reverse}
use Rattle.nd_ledger.specs.Refusals.{IsLive}
use Rattle.nd_ledger.proofs.Keeping.{kept_failed, allowed_seen, can_mark, can_turn}
use Rattle.nd_history.specs.Premises.{premises_of}
use Rattle.nd_history.specs.declared.entry.Entry.TheVariants.{Failed}
use Rattle.nd_ledger.proofs.Admitting.{allowed_failed}
use Rattle.nd_ledger.proofs.dispatch.Dispatch.failed.Goals as goal

pub invariant_of-self : goal.invariant_of-self
invariant_of-self c =
    let found : IsLive (reverse c.self.inside.state.book.entries) c.args.ticket = search rules in
    kept_failed c.self.inside c.enter.new.self c.args.ticket c.args.why c.enter.ensures c.self.invariant found

pub returns-clause-allowed : goal.returns-clause-allowed
returns-clause-allowed c =
    let d = c.self.inside in
    let found : IsLive (reverse d.state.book.entries) c.args.ticket = search rules in
    allowed_seen d _ (Failed c.args.ticket.drv c.args.why) c.self.view_is (allowed_failed (premises_of d.inputs) (reverse d.state.book.entries) c.args.ticket c.args.why c.self.invariant.legal found)

pub enter-requires-clause-can : goal.enter-requires-clause-can
enter-requires-clause-can c =
    let d = c.self.inside in
    let found : IsLive (reverse d.state.book.entries) c.args.ticket = search rules in
    can_mark d (Failed c.args.ticket.drv c.args.why) c.self.invariant (allowed_failed (premises_of d.inputs) (reverse d.state.book.entries) c.args.ticket c.args.why c.self.invariant.legal found)

pub enter-requires-clause-turn : goal.enter-requires-clause-turn
enter-requires-clause-turn c =
    let d = c.self.inside in
    let found : IsLive (reverse d.state.book.entries) c.args.ticket = search rules in
    can_turn d (Failed c.args.ticket.drv c.args.why) c.self.invariant (allowed_failed (premises_of d.inputs) (reverse d.state.book.entries) c.args.ticket c.args.why c.self.invariant.legal found)
