use Rattle.nd_ledger.proofs.Keeping.{lease_in_graph}
use Rattle.nd_ledger.proofs.dispatch.Dispatch.job.Goals as goal

pub path-requires : goal.path-requires
path-requires c = lease_in_graph c.self.inside _ c.args.ticket.now c.self.invariant c.self.view_is c.in_ok-paths.ensures.live

pub outputs-requires : goal.outputs-requires
outputs-requires c = lease_in_graph c.self.inside _ c.args.ticket.now c.self.invariant c.self.view_is c.in_ok-paths.ensures.live
