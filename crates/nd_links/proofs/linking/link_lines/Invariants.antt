use Rattle.std.proofs.Common.{◌≡◌, ◌++◌}
use Rattle.std.specs.Vec.Iter.{into_iter_items}
use Rattle.nd_links.specs.Linking.{AreLinks}
use Rattle.nd_links.proofs.linking.link_lines.Given as goal

abbrev pub invariant-loop-inputs : goal.invariant-loop-inputs
invariant-loop-inputs l = record {
  links : AreLinks l.register l.yielded l.rows.items;
  whole : l.fn.wants.items ≡ l.yielded ++ into_iter_items l.inputs-iterator;
}
