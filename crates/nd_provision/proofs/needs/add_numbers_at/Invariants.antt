use Rattle.std.proofs.Common.{◌≡◌, ◌++◌, get_or, take, map}
use Rattle.nd_provision.proofs.needs.add_numbers_at.Given as goal

abbrev pub invariant-loop-place : goal.invariant-loop-place
invariant-loop-place l = l.row.items ≡ l.fn.row.items ++ map (λ k. get_or l.own k 0) (take l.place-index l.places)
