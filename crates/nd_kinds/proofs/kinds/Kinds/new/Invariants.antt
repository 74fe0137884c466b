use Rattle.nd_kinds.specs.Sharing.{AreSoFar}
use Rattle.nd_kinds.proofs.kinds.Kinds.new.Given as goal

-- the derivations so far have their kinds
abbrev pub invariant-loop-drv : goal.invariant-loop-drv
invariant-loop-drv l = AreSoFar l.machines l.local l.needs l.drv l.kinds
