use Rattle.std.proofs.Common.{◌≡◌, ◌++◌, [], get_or, take, map}
use Rattle.nd_provision.proofs.needs.add_named.Given as goal

abbrev pub invariant-loop-place : goal.invariant-loop-place
invariant-loop-place l = l.into.items ≡ l.fn.into.items ++ map (λ k. get_or l.outputs k []) (take l.place-index l.places)
