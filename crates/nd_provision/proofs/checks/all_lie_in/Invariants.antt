use Rattle.std.proofs.Common.{take}
use Rattle.nd_provision.specs.Stored.{AreAllWithin}
use Rattle.nd_provision.proofs.checks.all_lie_in.Given as goal

abbrev pub invariant-loop-list : goal.invariant-loop-list
invariant-loop-list l = AreAllWithin l.set (take l.list-index l.lists)
