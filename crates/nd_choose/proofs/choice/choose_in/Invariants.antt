use Rattle.std.proofs.Common.{take}
use Rattle.std.specs.Prelude.{Contains}
use Rattle.nd_choose.proofs.Choosing.{IsSoFar}
use Rattle.nd_choose.proofs.choice.choose_in.Given as goal

-- the best of the machines at the places so far
abbrev pub invariant-loop-place : goal.invariant-loop-place
invariant-loop-place l = IsSoFar l.machines l.loads l.up (Contains (take l.place-index l.among)) l.best
