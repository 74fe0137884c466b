use Rattle.std.proofs.Common.{◌≡◌, ◌++◌, drop}
use Rattle.nd_links.proofs.pool.Pool.list_names.Given as goal

abbrev pub invariant-loop-leaf : goal.invariant-loop-leaf
invariant-loop-leaf l = l.names.items ++ drop l.leaf-index l.leaves ≡ l.leaves
