use Rattle.std.proofs.Common.{◌≡◌, ◌+◌, ℕ, length, eqb, get_or, take}
use Rattle.std.specs.List.{count_by}
use Rattle.nd_failure.proofs.unbuilt.UnbuiltInputs.lower_all.Given as goal

abbrev pub invariant-loop-node : goal.invariant-loop-node
invariant-loop-node l = record {
  sized : length l.self ≡ length l.initial.self;
  lowered : (d : ℕ) → get_or l.self d 0 + count_by (eqb d) (take l.node-index l.nodes) ≡ get_or l.initial.self d 0;
}
