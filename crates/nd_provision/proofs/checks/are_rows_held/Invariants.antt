use Rattle.std.proofs.Common.{take}
use Rattle.nd_provision.specs.Stored.{AreRowsCovered}
use Rattle.nd_provision.proofs.checks.are_rows_held.Given as goal

abbrev pub invariant-loop-number : goal.invariant-loop-number
invariant-loop-number l = AreRowsCovered l.numbers.rows l.held.numbers l.own (take l.number-index l.own)
