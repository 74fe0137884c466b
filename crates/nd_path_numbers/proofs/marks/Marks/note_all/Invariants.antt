use Rattle.std.proofs.Common.{[], take}
use Rattle.nd_path_numbers.specs.Marks.{AreMarked}
use Rattle.nd_path_numbers.proofs.marks.Marks.note_all.Given as goal

abbrev pub invariant-loop-number : goal.invariant-loop-number
invariant-loop-number l = AreMarked [] l.fn.self → AreMarked (take l.number-index l.numbers) l.self
