use Rattle.std.proofs.Common.{◌≡◌, ◌++◌, map}
use Rattle.std.specs.Vec.Iter.{into_iter_items}
use Rattle.nd_line.proofs.kinds.names_of.Given as goal

abbrev pub invariant-loop-output : goal.invariant-loop-output
invariant-loop-output l = l.names.items ++ map (λ output. output.name) (into_iter_items l.output-iterator) ≡ map (λ output. output.name) l.fn.outputs
