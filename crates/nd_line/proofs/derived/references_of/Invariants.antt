use Rattle.std.proofs.Common.{◌≡◌, ◌++◌, drop, map}
use Rattle.nd_line.specs.Found.{path_of}
use Rattle.nd_line.proofs.derived.references_of.Given as goal

abbrev pub invariant-loop-source : goal.invariant-loop-source
invariant-loop-source l = l.paths.items ++ drop l.source-index l.sources ≡ l.sources

abbrev pub invariant-loop-input : goal.invariant-loop-input
invariant-loop-input l = l.paths.items ++ map path_of (drop l.input-index l.inputs) ≡ l.fn.sources ++ map path_of l.inputs
