use Rattle.std.proofs.Common.{take}
use Rattle.std.specs.List.{AllZip}
use Rattle.nd_cli.specs.SharedClasses.{IsMade}
use Rattle.nd_cli.proofs.classes.by_class.Given as goal

-- what was looked up so far
abbrev pub invariant-loop-number : goal.invariant-loop-number
invariant-loop-number g l = AllZip (IsMade l.made) (take l.number l.members) l.all.items
