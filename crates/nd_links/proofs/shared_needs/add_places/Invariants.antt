use Rattle.std.proofs.Common.{◌≡◌, ◌++◌, map, take}
use Rattle.nd_links.specs.Placing.{place_at}
use Rattle.nd_links.proofs.shared_needs.add_places.Given as goal

abbrev pub invariant-loop-place : goal.invariant-loop-place
invariant-loop-place l = l.list.items ≡ l.fn.list.items ++ map (place_at l.met) (take l.place-index l.places)
