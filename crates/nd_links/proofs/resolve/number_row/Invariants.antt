use Rattle.std.proofs.Common.{take}
use Rattle.nd_links.specs.Whole.{AreNumbered}
use Rattle.nd_links.proofs.resolve.number_row.Given as goal

abbrev pub invariant-loop-want : goal.invariant-loop-want
invariant-loop-want l = AreNumbered l.register.paths l.register.names (take l.want-index l.wants) l.row.items
