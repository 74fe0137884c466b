use Rattle.std.proofs.Common.{◌≡◌, ◌++◌, None}
use Rattle.std.specs.Vec.Iter.{into_iter_items}
use Rattle.nd_links.specs.Numbering.{AddsPaths}
use Rattle.nd_links.proofs.number.Numbers.number.Given as goal

abbrev pub invariant-loop-path : goal.invariant-loop-path
invariant-loop-path l = record {
  adds : AddsPaths l.fn.self l.yielded l.self;
  none : l.self.repeat ≡ None;
  whole : l.fn.paths.items ≡ l.yielded ++ into_iter_items l.path-iterator;
}
