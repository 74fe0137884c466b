use Rattle.std.proofs.Common.{reverse, ap, ◌∙◌, subst}
use Rattle.nd_ledger.specs.Worlds.{World}
use Rattle.nd_history.specs.Premises.{Premises, premises_of}
use Rattle.nd_history.specs.Pumping.{IsPumpStep}
use Rattle.nd_history.proofs.Following.{newest_first, may_record}
use Rattle.nd_ledger.proofs.Keeping.{fit_kept, kept_appended, kept_turns, can_turn, step_quiet}
use Rattle.nd_history.proofs.Resting.{waits_for_leases}
use Rattle.nd_history.proofs.Steps.{pumped_more, pump_smaller, pump_counted}
use Rattle.nd_history.proofs.Boards.{can_follow}
use Rattle.nd_ledger.proofs.dispatch.Dispatch.pump.Goals as goal

pub loop-step-preserved : goal.loop-step-preserved
loop-step-preserved c =
    let d = c.loop-step.self-inside in
    let inv = c.loop-step.invariant in
    let e = c.in-Some.step in
    let rec = c.in_ok-append.ensures.ok in
    let t = c.next_step.new.turns in
    let step = c.in-Some.ensures.step in
    let P : Premises → Type 0 = λ i. IsPumpStep i (reverse d.state.book.entries) e in
    record {
      kept = kept_appended (record d { state = record d.state { turns = t } }) c.append.new.self e rec (kept_turns d t c.in-Some.ensures.turns inv.kept) step.step.allowed (step_quiet e step.drv step.step.about);
      same = inv.same;
      pumped = pumped_more _ _ d.state.book.entries c.append.new.self.book.entries e inv.pumped rec.entered.entries (subst P inv.same step);
    }

pub loop-step-smaller : goal.loop-step-smaller
loop-step-smaller c =
    let d = c.loop-step.self-inside in
    let e = c.in-Some.step in
    let longer = c.in_ok-append.ensures.ok.entered.entries in
    pump_smaller (premises_of d.inputs) (reverse d.state.book.entries) e (reverse c.append.new.self.book.entries) (newest_first d.state.book.entries c.append.new.self.book.entries e longer) c.in-Some.ensures.step

pub returns-clause-steps : goal.returns-clause-steps
returns-clause-steps c =
    let pumped = c.loop-step.invariant.pumped in
    record {
      pumped = pumped;
      count =
          pump_counted c.args.self.now.history c.loop-step.self-inside.state.book.entries c.entries-before.result.now c.entries.result.now pumped.steps
          c.entries.ensures (c.entries-before.ensures ∙ ap (λ (w : World). w.history) c.self.view_is) pumped.grown;
    }

pub returns-clause-idle : goal.returns-clause-idle
returns-clause-idle c =
    let d = c.loop-step.self-inside in
    waits_for_leases (premises_of d.inputs) (reverse d.state.book.entries) c.order-order.result.now c.loop-step.invariant.kept.sound.ranged c.order-order.ensures.fall c.in_default.ensures.step

pub append-requires-clause-may : goal.append-requires-clause-may
append-requires-clause-may c =
    let d = c.loop-step.self-inside in
    may_record (premises_of d.inputs) d.state.book c.in-Some.step (fit_kept d c.loop-step.invariant.kept) c.in-Some.ensures.step.step.allowed

pub append-requires-clause-can : goal.append-requires-clause-can
append-requires-clause-can c =
    let d = c.loop-step.self-inside in
    let kept = c.loop-step.invariant.kept in
    can_follow (premises_of d.inputs) (reverse d.state.book.entries) d.state.board c.in-Some.step kept.legal kept.marked c.in-Some.ensures.step.step.allowed

pub append-requires-clause-turn : goal.append-requires-clause-turn
append-requires-clause-turn c =
    let d = c.loop-step.self-inside in
    can_turn (record d { state = record d.state { turns = c.next_step.new.turns } }) c.in-Some.step (kept_turns d c.next_step.new.turns c.in-Some.ensures.turns c.loop-step.invariant.kept) c.in-Some.ensures.step.step.allowed
