use Rattle.std.proofs.Common.{◌≡◌, ℕ, ◌<◌, true}
use Rattle.nd_eligible.specs.Eligibility.{IsEligibleAt}
use Rattle.nd_choose.specs.Best.{is_up_at}
use Rattle.nd_hook.proofs.replies.is_one_up.Given as goal

-- no eligible machine at a place so far is up
abbrev pub invariant-loop-place : goal.invariant-loop-place
invariant-loop-place l = (n : ℕ) → n < l.place → IsEligibleAt l.machines l.need n → is_up_at l.up n ≡ true → ⊥
