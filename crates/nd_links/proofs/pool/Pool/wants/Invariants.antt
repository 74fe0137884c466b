use Rattle.std.proofs.Common.{◌≡◌, ◌++◌, drop}
use Rattle.nd_links.proofs.pool.Pool.wants.Given as goal

abbrev pub invariant-loop-input : goal.invariant-loop-input
invariant-loop-input l = l.wants.items ++ drop l.input-index l.inputs ≡ l.inputs
