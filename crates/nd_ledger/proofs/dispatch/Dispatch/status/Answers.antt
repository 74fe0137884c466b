use Rattle.std.proofs.Common.{ℕ, List, length, reverse, ap, subst, arith}
use Rattle.nd_history.specs.Premises.{premises_of}
use Rattle.nd_history.specs.Standing.{drvs_in}
use Rattle.nd_history.specs.Statuses.{HasStatusIn}
use Rattle.nd_ledger.specs.Worlds.{World}
use Rattle.nd_history.proofs.Boards.{status_said}
use Rattle.nd_ledger.proofs.dispatch.Dispatch.status.Goals as goal

pub returns : goal.returns
returns c =
    let d = c.self.inside in
    let P = λ (w : World). HasStatusIn w.inputs (reverse w.history) c.args.i c.status.result in
    subst P c.self.view_is (status_said (premises_of d.inputs) (reverse d.state.book.entries) d.state.board c.self.invariant.legal c.self.invariant.marked c.args.i c.status.result c.status.ensures)

pub status-requires : goal.status-requires
status-requires c =
    let d = c.self.inside in
    let long = ap (λ (rows : List (List ℕ)). length rows) c.self.invariant.marked.inputs in
    let there = ap (λ (w : World). drvs_in w.inputs) c.self.view_is in
    let lt = c.requires in
    omega arith
