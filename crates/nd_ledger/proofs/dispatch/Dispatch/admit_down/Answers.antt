use Rattle.std.proofs.Common.{reverse}
use Rattle.nd_ledger.proofs.Admitting.{down_illegal}
use Rattle.nd_ledger.proofs.dispatch.Dispatch.admit_down.Goals as goal

pub returns-in-Err-clause-refused : goal.returns-in-Err-clause-refused
returns-in-Err-clause-refused c =
    let w = c.args.self.now in
    down_illegal w.inputs (reverse w.history) c.args.drv c.in-Some.ticket c.in-Err.why _ c.requires c.in-Some.ensures.0 c.in-Some.ensures.1 c.in-Err.ensures.refused c.admit_error.ensures
