use Rattle.std.proofs.Common.{take}
use Rattle.nd_links.specs.Whole.{ArePlaces}
use Rattle.nd_links.proofs.resolve.list_places.Given as goal

abbrev pub invariant-loop-name : goal.invariant-loop-name
invariant-loop-name l = ArePlaces l.names (take l.name-index l.wanted) l.places.items
