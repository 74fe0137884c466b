use Rattle.std.proofs.Common.{rules}
use Rattle.nd_receipts.specs.Noted.{track}
use Rattle.nd_run_desk.specs.Jobs.{IsDue}
use Rattle.nd_work.proofs.Going.{goes_unbegun, goes_on_built}
use Rattle.nd_work.proofs.floor.Floor.serve_anew.Goals as goal

pub returns-then-not-started : goal.returns-then-not-started
returns-then-not-started g c =
    goes_unbegun (IsDue g.L.Opened.keeping g.L.Opened.opening)
    (track c.args.hand.now.notes c.args.transport.now.deeds)
    (track c.fetch_lease.new.hand.notes c.fetch_lease.new.transport.deeds)
    c.args.job.ticket.drv c.in_ok-started.started (search rules) c.in_ok-started.ensures.goes

pub returns : goal.returns
returns g c =
    goes_on_built (IsDue g.L.Opened.keeping g.L.Opened.opening)
    (track c.args.hand.now.notes c.args.transport.now.deeds)
    (track c.fetch_lease.new.hand.notes c.fetch_lease.new.transport.deeds)
    (track c.build_started.new.hand.notes c.build_started.new.transport.deeds)
    c.args.job.ticket.drv c.in_ok-started.started c.build_started.result (search rules) c.in_ok-started.ensures.goes c.build_started.ensures
