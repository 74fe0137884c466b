use Rattle.std.proofs.Common.{ap}
use Rattle.nd_leases.specs.declared.ticket.Ticket.{Ticket}
use Rattle.nd_work.proofs.Going.{finishes_ended}
use Rattle.nd_work.proofs.floor.Floor.build_lease.Goals as goal

pub returns-in_ok-finish-in-Built : goal.returns-in_ok-finish-in-Built
returns-in_ok-finish-in-Built g c =
    finishes_ended g.L.Opened.keeping g.L.Opened.opening c.args.hand.now.notes c.finish.new.hand.notes c.args.ticket.drv c.args.behind c.in-Built.refs
    c.args.transport.now c.build.new.self c.args.leave.now.kept
    (ap (λ (t : Ticket). t.drv) c.requires.ticket) c.build.ensures.may c.in-Built.ensures.serves c.in_ok-finish-in-Built.ensures
