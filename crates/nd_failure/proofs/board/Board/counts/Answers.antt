use Rattle.std.proofs.Common.{◌+◌, length, refl, sym, subst, ap, ◌∙◌, arith}
use Rattle.nd_failure.specs.Progress.{Progress, IsStopped}
use Rattle.nd_failure.specs.Statuses.{AreCounts}
use Rattle.nd_failure.specs.declared.status.Counts.{Counts}
use Rattle.nd_failure.proofs.BoardFacts.{shown, AreCounts-going, AreCounts-stopped, total_of-kept}
use Rattle.nd_failure.proofs.board.Board.counts.Goals as goal

pub returns-then-not-is_stopped-clause-nodes : goal.returns-then-not-is_stopped-clause-nodes
returns-then-not-is_stopped-clause-nodes c =
    subst (λ (p : Progress). AreCounts p c.self.inside.counts) c.self.view_is
    (AreCounts-going (shown c.self.inside) c.self.inside.doomed c.self.inside.counts c.self.invariant.marked c.self.invariant.doomed
    (λ stopped. c.if-not-is_stopped.ensures (subst (λ (p : Progress). IsStopped p) c.self.view_is stopped)) c.self.invariant.tally)

pub returns-then-not-is_stopped-clause-sum : goal.returns-then-not-is_stopped-clause-sum
returns-then-not-is_stopped-clause-sum c =
    total_of-kept c.self.inside c.self.invariant ∙ c.self.invariant.marked ∙ ap (λ (p : Progress). length p.inputs) c.self.view_is

pub overflow_add-result : goal.overflow_add-result
overflow_add-result c = omega (arith, total_of-kept c.self.inside c.self.invariant, c.self.inside.marks.ok.0)

pub returns-clause-nodes : goal.returns-clause-nodes
returns-clause-nodes c =
    let kept = c.self.inside.counts in
    let new : Counts = record { waiting = 0; leased = kept.leased; built = kept.built; failed = kept.failed; cancelled = kept.waiting + kept.cancelled } in
    subst (λ (p : Progress). AreCounts p new) c.self.view_is
    (AreCounts-stopped (shown c.self.inside) c.self.inside.doomed kept new c.self.invariant.marked
    (subst (λ (p : Progress). IsStopped p) (sym c.self.view_is) c.if-not-is_stopped.ensures) c.self.invariant.tally refl refl refl refl refl)

pub returns-clause-sum : goal.returns-clause-sum
returns-clause-sum c =
    omega (arith, total_of-kept c.self.inside c.self.invariant, c.self.invariant.marked, ap (λ (p : Progress). length p.inputs) c.self.view_is)
