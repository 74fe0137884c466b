use Rattle.std.proofs.Common.{reverse}
use Rattle.nd_ledger.proofs.Admitting.{memory_alone}
use Rattle.nd_ledger.proofs.dispatch.Dispatch.admit.Goals as goal

pub returns-in-Err-clause-legal : goal.returns-in-Err-clause-legal
returns-in-Err-clause-legal c = λ allowed. memory_alone c.args.self.now.inputs (reverse c.args.self.now.history) c.args.entry c.in-Err.error c.in-Err.ensures.refused allowed
