use Rattle.std.proofs.Common.{◌≤◌, ◌<◌, ◌/◌, ℕ}
use Rattle.nd_flags.specs.Members.{IsMember}
use Rattle.nd_flags.proofs.layers.FlatFlags.first_from.Given as goal

abbrev pub invariant-loop-block : goal.invariant-loop-block
invariant-loop-block l = (k : ℕ) → l.from ≤ k → k / 64 < l.block → IsMember l.self k → ⊥
