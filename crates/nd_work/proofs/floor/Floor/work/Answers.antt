use Rattle.nd_receipts.specs.Noted.{track}
use Rattle.nd_run_desk.specs.Jobs.{IsDue}
use Rattle.nd_work.proofs.Going.{ends_further}
use Rattle.nd_work.proofs.floor.Floor.work.Goals as goal

pub returns-then-ne : goal.returns-then-ne
returns-then-ne g c =
    ends_further (IsDue g.L.Opened.keeping g.L.Opened.opening) c.turn-end.result
    (track c.args.hand.now.notes c.args.transport.now.deeds)
    (track c.serving.hand.notes c.serving.transport.deeds)
    (track c.turn-end.new.hand.notes c.turn-end.new.transport.deeds)
    c.serving.invariant c.turn-end.ensures
