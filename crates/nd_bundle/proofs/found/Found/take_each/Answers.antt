use Rattle.std.proofs.Common.{◌++◌, ◌∷◌, [], append_assoc, ap, sym, ◌∙◌}
use Rattle.std.specs.Vec.Iter.{into_iter_items}
use Rattle.nd_bundle.proofs.Parted.{takes_more}
use Rattle.nd_bundle.proofs.found.Found.take_each.Goals as goal

pub loop-piece-preserved : goal.loop-piece-preserved
loop-piece-preserved c = record {
  taken = takes_more c.args.self.now c.loop-piece.self c.take.new.self c.loop-piece.yielded c.in-Some.piece c.loop-piece.invariant.taken c.in_ok-take.ensures;
  whole = c.loop-piece.invariant.whole ∙ ap (λ rest. c.loop-piece.yielded ++ rest) c.in-Some.ensures.steps.0 ∙ sym (append_assoc c.loop-piece.yielded (c.in-Some.piece ∷ []) (into_iter_items c.next.new.self));
}
