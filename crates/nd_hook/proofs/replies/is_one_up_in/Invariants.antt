use Rattle.std.proofs.Common.{◌≡◌, ℕ, true, take}
use Rattle.std.specs.Prelude.{Contains}
use Rattle.nd_choose.specs.Best.{is_up_at}
use Rattle.nd_hook.proofs.replies.is_one_up_in.Given as goal

-- no machine at a place so far is up
abbrev pub invariant-loop-place : goal.invariant-loop-place
invariant-loop-place l = (n : ℕ) → Contains (take l.place-index l.among) n → is_up_at l.up n ≡ true → ⊥
