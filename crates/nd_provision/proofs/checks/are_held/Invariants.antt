use Rattle.std.proofs.Common.{take}
use Rattle.nd_path_numbers.specs.Searches.{IsCovered}
use Rattle.nd_provision.proofs.checks.are_held.Given as goal

abbrev pub invariant-loop-number : goal.invariant-loop-number
invariant-loop-number l = IsCovered (take l.number-index l.row) l.held.numbers l.own
