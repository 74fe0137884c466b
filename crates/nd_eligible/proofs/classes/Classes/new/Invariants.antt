use Rattle.std.proofs.Common.{take}
use Rattle.std.specs.List.{AllZip}
use Rattle.nd_eligible.specs.Classing.{AreKnown, IsClass}
use Rattle.nd_eligible.proofs.classes.Classes.new.Given as goal

-- each need so far has the number of its list
abbrev pub invariant-loop-need : goal.invariant-loop-need
invariant-loop-need l = record {
  known : AreKnown l.machines l.known l.lists.items;
  numbered : AllZip (IsClass l.machines l.lists.items) (take l.need-index l.needs) l.numbers.items;
}
