use Rattle.std.proofs.Common.{◌≡◌, take, map, length}
use Rattle.nd_failure.proofs.unbuilt.UnbuiltInputs.new.Given as goal

abbrev pub invariant-loop-node : goal.invariant-loop-node
invariant-loop-node l = l.counts.items ≡ take l.node (map length l.edges)
