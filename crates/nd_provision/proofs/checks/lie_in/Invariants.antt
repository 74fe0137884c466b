use Rattle.std.proofs.Common.{take}
use Rattle.nd_closure.specs.Closures.{HoldsAll}
use Rattle.nd_provision.proofs.checks.lie_in.Given as goal

abbrev pub invariant-loop-path : goal.invariant-loop-path
invariant-loop-path l = HoldsAll l.set (take l.path-index l.paths)
