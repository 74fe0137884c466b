use Rattle.nd_receipts.specs.Walks.{IsNoPlaceBelow}
use Rattle.nd_receipts.proofs.dealing.worker_on.Given as goal

abbrev pub invariant-loop-worker : goal.invariant-loop-worker
invariant-loop-worker l = IsNoPlaceBelow l.worker l.places l.wanted.0 l.wanted.1
