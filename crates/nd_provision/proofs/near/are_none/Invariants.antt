use Rattle.std.proofs.Common.{take}
use Rattle.nd_provision.specs.Nearby.{AreAllEmpty}
use Rattle.nd_provision.proofs.near.are_none.Given as goal

abbrev pub invariant-loop-list : goal.invariant-loop-list
invariant-loop-list l = AreAllEmpty (take l.list-index l.lists)
