use Rattle.std.proofs.Common.{reverse}
use Rattle.nd_ledger.proofs.Admitting.{ticket_of}
use Rattle.nd_ledger.proofs.dispatch.Dispatch.live_ticket.Goals as goal

pub returns : goal.returns
returns c = ticket_of c.args.drv (reverse c.args.self.now.history) c.lease.result c.lease.ensures
