use Rattle.std.proofs.Common.{◌≡◌, [], replicate}
use Rattle.nd_flags.proofs.lists.Lists.empty.Given as goal

abbrev pub invariant-loop : goal.invariant-loop
invariant-loop l = l.lists.items ≡ replicate l.counter []
