use Rattle.std.proofs.Common.{◌≡◌, ◌↔◌, ◌<◌, IsTrue, ◌==◌, false, reverse, subst, arith}
use Rattle.nd_history.specs.Premises.{premises_of}
use Rattle.nd_history.specs.Statuses.{IsFinished}
use Rattle.nd_history.proofs.Tallies.{told_waiting, told_leased}
use Rattle.nd_ledger.specs.Worlds.{World}
use Rattle.nd_history.proofs.Boards.{counts_said}
use Rattle.nd_ledger.proofs.dispatch.Dispatch.finished.Goals as goal

pub returns-then-counts-gt0 : goal.returns-then-counts-gt0
returns-then-counts-gt0 c =
    let d = c.self.inside in
    let i = premises_of d.inputs in
    let past = reverse d.state.book.entries in
    let are = counts_said i past d.state.board c.counts-counts.result c.self.invariant.legal c.self.invariant.marked c.counts-counts.ensures.nodes in
    let some : 0 < c.counts-counts.result.waiting = omega arith in
    let P = λ (w : World). IsTrue false ↔ IsFinished w.inputs (reverse w.history) in
    subst P c.self.view_is (told_waiting i past c.counts-counts.result are some)

pub returns : goal.returns
returns c =
    let d = c.self.inside in
    let i = premises_of d.inputs in
    let past = reverse d.state.book.entries in
    let are = counts_said i past d.state.board c.counts-counts.result c.self.invariant.legal c.self.invariant.marked c.counts-counts.ensures.nodes in
    let none : c.counts-counts.result.waiting ≡ 0 = omega arith in
    let P = λ (w : World). IsTrue (c.counts-counts.result.leased == 0) ↔ IsFinished w.inputs (reverse w.history) in
    subst P c.self.view_is (told_leased i past c.counts-counts.result c.self.invariant.legal are none)
