use Rattle.std.proofs.Common.{◌≡◌, ◌++◌}
use Rattle.std.specs.Vec.Iter.{into_iter_items}
use Rattle.nd_bundle.specs.Parts.{TakesAll}
use Rattle.nd_bundle.proofs.found.Found.take_each.Given as goal

abbrev pub invariant-loop-piece : goal.invariant-loop-piece
invariant-loop-piece l = record {
  taken : TakesAll l.fn.self l.yielded l.self;
  whole : l.fn.pieces.items ≡ l.yielded ++ into_iter_items l.piece-iterator;
}
