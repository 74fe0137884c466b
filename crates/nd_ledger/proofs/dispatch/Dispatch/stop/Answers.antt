use Rattle.std.proofs.Common.{◌≡◌, reverse, false, sym, ◌∙◌, subst}
use Rattle.nd_history.specs.History.{has_stop}
use Rattle.nd_ledger.proofs.Keeping.{kept_stop}
use Rattle.nd_history.specs.Legal.{IsAllowed}
use Rattle.nd_ledger.specs.Worlds.{World}
use Rattle.nd_history.specs.declared.entry.Entry.TheVariants.{Stop}
use Rattle.nd_ledger.proofs.Keeping.{can_turn}
use Rattle.nd_ledger.proofs.dispatch.Dispatch.stop.Goals as goal

pub invariant_of-self : goal.invariant_of-self
invariant_of-self c =
    let none : has_stop (reverse c.self.inside.state.book.entries) ≡ false = sym c.self.invariant.marked.stop ∙ sym c.has_stop.ensures ∙ c.if-has_stop.false in
    kept_stop c.self.inside c.enter.new.self c.enter.ensures c.self.invariant none

pub returns-clause-allowed : goal.returns-clause-allowed
returns-clause-allowed c =
    let none : has_stop (reverse c.self.inside.state.book.entries) ≡ false = sym c.self.invariant.marked.stop ∙ sym c.has_stop.ensures ∙ c.if-has_stop.false in
    let P = λ (w : World). IsAllowed w.inputs Stop (reverse w.history) in
    subst P c.self.view_is (record { ranged = tt; may = none })

pub enter-requires-clause-turn : goal.enter-requires-clause-turn
enter-requires-clause-turn c =
    let none : has_stop (reverse c.self.inside.state.book.entries) ≡ false = sym c.self.invariant.marked.stop ∙ sym c.has_stop.ensures ∙ c.if-has_stop.false in
    can_turn c.self.inside Stop c.self.invariant (record { ranged = tt; may = none })
