use Rattle.std.proofs.Common.{◌≡◌, take}
use Rattle.nd_eligible.proofs.classes.copies.Given as goal

-- the copies of the lists so far
abbrev pub invariant-loop-list : goal.invariant-loop-list
invariant-loop-list l = l.copies.items ≡ take l.list-index l.lists
