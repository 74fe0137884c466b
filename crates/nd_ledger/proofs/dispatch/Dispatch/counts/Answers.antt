use Rattle.std.proofs.Common.{ℕ, List, length, reverse, ap, subst, ◌∙◌}
use Rattle.nd_history.specs.Premises.{premises_of}
use Rattle.nd_history.specs.Standing.{drvs_in}
use Rattle.nd_history.specs.Statuses.{AreCountsIn}
use Rattle.nd_ledger.specs.Worlds.{World}
use Rattle.nd_history.proofs.Boards.{counts_said}
use Rattle.nd_ledger.proofs.dispatch.Dispatch.counts.Goals as goal

pub returns-clause-drvs : goal.returns-clause-drvs
returns-clause-drvs c =
    let d = c.self.inside in
    let P = λ (w : World). AreCountsIn w.inputs (reverse w.history) c.counts.result in
    subst P c.self.view_is (counts_said (premises_of d.inputs) (reverse d.state.book.entries) d.state.board c.counts.result c.self.invariant.legal c.self.invariant.marked c.counts.ensures.nodes)

pub returns-clause-sum : goal.returns-clause-sum
returns-clause-sum c =
    let long = ap (λ (rows : List (List ℕ)). length rows) c.self.invariant.marked.inputs in
    c.counts.ensures.sum ∙ long ∙ ap (λ (w : World). drvs_in w.inputs) c.self.view_is
