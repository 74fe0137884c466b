use Rattle.std.proofs.Common.{◌≡◌, ◌++◌, map, filter, drop}
use Rattle.nd_line.specs.Kinds.{are_outputs, is_known}
use Rattle.nd_line.proofs.kinds.known_paths.Given as goal

abbrev pub invariant-loop-output : goal.invariant-loop-output
invariant-loop-output l = record {
  paths : l.paths.items ++ map (λ output. output.path) (filter is_known (drop l.output-index l.outputs)) ≡ map (λ output. output.path) (filter is_known l.outputs);
  rest : are_outputs (drop l.output-index l.outputs) ≡ are_outputs l.outputs;
}
