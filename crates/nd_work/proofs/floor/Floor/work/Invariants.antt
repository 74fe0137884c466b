use Rattle.nd_receipts.specs.Noted.{GoesOn, track}
use Rattle.nd_run_desk.specs.Jobs.{IsDue}
use Rattle.nd_work.proofs.floor.Floor.work.Given as goal

abbrev pub invariant-serving : goal.invariant-serving
invariant-serving g l = GoesOn (IsDue g.L.Opened.keeping g.L.Opened.opening) (track l.initial.hand.notes l.initial.transport.deeds) (track l.hand.notes l.transport.deeds)
