use Rattle.std.proofs.Common.{take}
use Rattle.std.specs.List.{AllZip}
use Rattle.nd_cli.specs.SharedClasses.{IsOfClass}
use Rattle.nd_cli.proofs.classes.Classes.of.Given as goal

-- the classes of the derivations so far
abbrev pub invariant-loop-drv : goal.invariant-loop-drv
invariant-loop-drv l = AllZip (IsOfClass l.known.firsts.items) (take l.drv l.needs) l.members.items
