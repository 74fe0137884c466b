use Rattle.std.proofs.Common.{take}
use Rattle.nd_path_numbers.specs.Numbers.{AreNumbersOf}
use Rattle.nd_path_numbers.proofs.path_numbers.PathNumbers.are_numbers_of.Given as goal

abbrev pub invariant-loop-i : goal.invariant-loop-i
invariant-loop-i l = AreNumbersOf l.self.paths (take l.i l.paths) (take l.i l.numbers)
