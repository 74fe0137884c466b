use Rattle.std.proofs.Common.{◌≤◌, ◌<◌, ℕ}
use Rattle.nd_failure.specs.Progress.{IsReady}
use Rattle.nd_failure.proofs.plain.PlainBoard.first_ready.Given as goal

abbrev pub invariant-loop-i : goal.invariant-loop-i
invariant-loop-i l = (k : ℕ) → l.from ≤ k → k < l.i → IsReady l.self k → ⊥
