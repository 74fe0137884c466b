use Rattle.std.proofs.Common.{take}
use Rattle.nd_path_numbers.specs.Numbers.{HasGrown}
use Rattle.nd_provision.specs.Seeds.{GoesOn}
use Rattle.nd_provision.proofs.needs.add_numbers.Given as goal

abbrev pub invariant-loop-path : goal.invariant-loop-path
invariant-loop-path l = record {
  grown : HasGrown l.fn.numbers l.numbers;
  row : GoesOn l.fn.numbers.paths l.numbers.paths l.fn.row.items l.row.items (take l.path-index l.paths);
}
