use Rattle.std.proofs.Common.{◌≡◌, length}
use Rattle.nd_path_numbers.specs.Numbers.{HasGrown}
use Rattle.nd_provision.specs.Outputs.{AreOutputRows}
use Rattle.nd_provision.proofs.needs.outputs_by_number.Given as goal

abbrev pub invariant-loop-drv : goal.invariant-loop-drv
invariant-loop-drv l = record {
  grown : HasGrown l.fn.numbers l.numbers;
  size : length l.rows ≡ l.drv;
  outputs : AreOutputRows l.graph.outputs l.numbers.paths l.rows;
}
