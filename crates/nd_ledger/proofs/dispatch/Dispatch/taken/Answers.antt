use Rattle.std.proofs.Common.{◌≤◌, reverse, arith}
use Rattle.nd_history.specs.History.{load}
use Rattle.nd_ledger.proofs.Keeping.{small_load}
use Rattle.nd_ledger.proofs.dispatch.Dispatch.taken.Goals as goal

pub overflow_cast-result : goal.overflow_cast-result
overflow_cast-result c =
    let few : load c.args.machine (reverse c.self.inside.state.book.entries) ≤ 65535 = small_load c.self.inside c.self.invariant c.args.machine in
    let is = c.load.ensures in
    omega (arith, few, is)
