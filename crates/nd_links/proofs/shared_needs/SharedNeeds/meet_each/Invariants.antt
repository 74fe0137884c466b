use Rattle.std.proofs.Common.{◌≡◌, ◌++◌}
use Rattle.std.specs.Vec.Iter.{into_iter_items}
use Rattle.nd_links.specs.Placing.{MeetsNeeds}
use Rattle.nd_links.proofs.shared_needs.SharedNeeds.meet_each.Given as goal

abbrev pub invariant-loop-need : goal.invariant-loop-need
invariant-loop-need l = record {
  met : MeetsNeeds l.yielded l.fn.self l.self l.met.items;
  whole : l.fn.needs.items ≡ l.yielded ++ into_iter_items l.need-iterator;
}
