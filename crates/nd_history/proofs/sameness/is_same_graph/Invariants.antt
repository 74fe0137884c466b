use Rattle.std.proofs.Common.{ℕ, ◌<◌}
use Rattle.nd_history.specs.Sameness.{IsSameNode}
use Rattle.nd_history.proofs.sameness.is_same_graph.Given as goal

abbrev pub invariant-loop-i : goal.invariant-loop-i
invariant-loop-i l = (k : ℕ) → k < l.i → IsSameNode l.graph l.other k
