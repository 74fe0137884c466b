use Rattle.std.proofs.Common.{reverse}
use Rattle.nd_ledger.proofs.Admitting.{start_illegal}
use Rattle.nd_ledger.proofs.dispatch.Dispatch.admit_start.Goals as goal

pub returns-in-Err-clause-refused : goal.returns-in-Err-clause-refused
returns-in-Err-clause-refused c =
    let w = c.args.self.now in
    start_illegal w.inputs (reverse w.history) c.args.drv c.in-Some.ticket c.args.paths c.in-Err.refused.why _ c.requires c.in-Some.ensures.0 c.in-Some.ensures.1 c.in-Err.ensures.refused c.admit_error.ensures
