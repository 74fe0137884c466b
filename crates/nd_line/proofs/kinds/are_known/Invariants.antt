use Rattle.std.proofs.Common.{◌≡◌, drop}
use Rattle.std.specs.List.{list_all}
use Rattle.nd_line.specs.Kinds.{is_known}
use Rattle.nd_line.proofs.kinds.are_known.Given as goal

abbrev pub invariant-loop-output : goal.invariant-loop-output
invariant-loop-output l = list_all is_known (drop l.output-index l.outputs) ≡ list_all is_known l.outputs
