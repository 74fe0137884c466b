use Rattle.std.proofs.Common.{map}
use Rattle.nd_receipts.specs.Walks.{AreMetBelow}
use Rattle.nd_receipts.proofs.dealing.are_all_met.Given as goal

abbrev pub invariant-loop-worker : goal.invariant-loop-worker
invariant-loop-worker l = AreMetBelow l.worker (map (λ v. v.items) l.rows) l.met
