use Rattle.std.proofs.Common.{take}
use Rattle.nd_provision.specs.Nearby.{AreNear}
use Rattle.nd_provision.proofs.near.is_list_near.Given as goal

abbrev pub invariant-loop-path : goal.invariant-loop-path
invariant-loop-path l = AreNear l.graph l.drv (take l.path-index l.paths)
