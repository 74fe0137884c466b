use Rattle.std.proofs.Common.{◌≡◌, ◌++◌, take}
use Rattle.nd_provision.proofs.copying.add_copies.Given as goal

abbrev pub invariant-loop-path : goal.invariant-loop-path
invariant-loop-path l = l.into.items ≡ l.fn.into.items ++ take l.path-index l.paths
