use Rattle.std.proofs.Common.{take}
use Rattle.nd_path_numbers.specs.Numbers.{Gathers}
use Rattle.nd_path_numbers.proofs.path_numbers.PathNumbers.set_of.Given as goal

abbrev pub invariant-loop-number : goal.invariant-loop-number
invariant-loop-number l = Gathers l.self.paths (take l.number-index l.numbers) l.paths.items
