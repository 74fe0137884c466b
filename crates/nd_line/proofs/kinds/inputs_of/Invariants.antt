use Rattle.std.proofs.Common.{◌≡◌, ◌++◌, map}
use Rattle.std.specs.Vec.Iter.{into_iter_items}
use Rattle.nd_line.specs.Kinds.{are_drvs}
use Rattle.nd_line.specs.Reads.{named}
use Rattle.nd_line.proofs.kinds.inputs_of.Given as goal

abbrev pub invariant-loop-drv : goal.invariant-loop-drv
invariant-loop-drv l = record {
  so_far : l.inputs.items ++ map named (into_iter_items l.drv-iterator) ≡ map named l.fn.drvs;
  rest : are_drvs (into_iter_items l.drv-iterator) ≡ are_drvs l.fn.drvs;
}
