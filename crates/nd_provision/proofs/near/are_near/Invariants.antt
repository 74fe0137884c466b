use Rattle.std.proofs.Common.{take}
use Rattle.nd_provision.specs.Nearby.{AreAllNear}
use Rattle.nd_provision.proofs.near.are_near.Given as goal

abbrev pub invariant-loop-list : goal.invariant-loop-list
invariant-loop-list l = AreAllNear l.graph l.drv (take l.list-index l.lists)
