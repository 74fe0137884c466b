use Rattle.std.proofs.Common.{◌≡◌, ◌++◌, drop}
use Rattle.nd_line.specs.Kinds.{are_paths}
use Rattle.nd_line.proofs.kinds.sources_of.Given as goal

abbrev pub invariant-loop-source : goal.invariant-loop-source
invariant-loop-source l = record {
  so_far : l.paths.items ++ drop l.source-index l.sources ≡ l.sources;
  rest : are_paths (drop l.source-index l.sources) ≡ are_paths l.sources;
}
