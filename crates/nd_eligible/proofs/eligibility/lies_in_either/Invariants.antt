use Rattle.std.proofs.Common.{◌++◌, take}
use Rattle.nd_eligible.specs.Eligibility.{IsSubset}
use Rattle.nd_eligible.proofs.eligibility.lies_in_either.Given as goal

-- each item so far is in one of the other sets
abbrev pub invariant-loop-item : goal.invariant-loop-item
invariant-loop-item l = IsSubset (take l.item-index l.item-items) (l.ones ++ l.others)
