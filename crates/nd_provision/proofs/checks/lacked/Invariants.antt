use Rattle.std.proofs.Common.{take}
use Rattle.nd_provision.specs.Stored.{Lacks}
use Rattle.nd_provision.proofs.checks.lacked.Given as goal

abbrev pub invariant-loop-path : goal.invariant-loop-path
invariant-loop-path l = Lacks l.numbers.paths l.held.numbers (take l.path-index l.path-items) l.lacked.items
