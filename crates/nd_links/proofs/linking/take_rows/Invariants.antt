use Rattle.std.proofs.Common.{◌≡◌, ◌++◌, map}
use Rattle.std.specs.Vec.Iter.{into_iter_items}
use Rattle.nd_links.specs.Linking.{linked}
use Rattle.nd_links.proofs.linking.take_rows.Given as goal

abbrev pub invariant-loop-row : goal.invariant-loop-row
invariant-loop-row l = record {
  linked_so : l.yielded ≡ map linked l.inputs.items;
  whole : l.fn.rows.items ≡ l.yielded ++ into_iter_items l.row-iterator;
}
