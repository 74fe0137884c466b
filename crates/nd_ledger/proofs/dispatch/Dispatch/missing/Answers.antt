use Rattle.std.proofs.Common.{reverse}
use Rattle.nd_history.specs.Premises.{premises_of}
use Rattle.nd_ledger.specs.Refusals.{IsLive}
use Rattle.nd_ledger.proofs.Keeping.{fit_kept}
use Rattle.nd_ledger.proofs.Tickets.{live_in_graph, live_in_park}
use Rattle.nd_ledger.proofs.dispatch.Dispatch.missing.Goals as goal

pub missing-requires : goal.missing-requires
missing-requires c =
    let d = c.self.inside in
    let found : IsLive (reverse d.state.book.entries) c.args.ticket.now = c.is_live.ensures.0 c.if-not-is_live.false in
    record {
      drv = live_in_graph (premises_of d.inputs) d.state.book c.args.ticket.now (fit_kept d c.self.invariant) found;
      machine = live_in_park (premises_of d.inputs) d.state.book d.stores c.args.ticket.now (fit_kept d c.self.invariant) c.self.invariant.stores found;
    }
