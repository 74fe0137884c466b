use Rattle.std.proofs.Common.{◌<◌}
use Rattle.nd_eligible.specs.Eligibility.{IsEligibleAt}
use Rattle.nd_choose.proofs.Choosing.{IsSoFar}
use Rattle.nd_choose.proofs.choice.choose.Given as goal

-- the best of the eligible machines at the places so far
abbrev pub invariant-loop-place : goal.invariant-loop-place
invariant-loop-place l = IsSoFar l.machines l.loads l.up (λ n. (n < l.place) × IsEligibleAt l.machines l.need n) l.best
