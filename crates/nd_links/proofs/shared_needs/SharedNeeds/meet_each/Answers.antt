use Rattle.std.proofs.Common.{◌++◌, ◌∷◌, [], append_assoc, ap, sym, ◌∙◌}
use Rattle.std.specs.Vec.Iter.{into_iter_items}
use Rattle.nd_links.proofs.Placing.{meets_more}
use Rattle.nd_links.proofs.shared_needs.SharedNeeds.meet_each.Goals as goal

pub loop-need-preserved : goal.loop-need-preserved
loop-need-preserved c = record {
  met = meets_more c.loop-need.yielded c.args.self.now c.loop-need.self c.meet.new.self c.loop-need.met.items c.push.new.self.items c.in-Some.need c.in_ok-place.place c.loop-need.invariant.met c.in_ok-place.ensures c.in_ok-push.ensures.items;
  whole = c.loop-need.invariant.whole ∙ ap (λ rest. c.loop-need.yielded ++ rest) c.in-Some.ensures.steps.0 ∙ sym (append_assoc c.loop-need.yielded (c.in-Some.need ∷ []) (into_iter_items c.next.new.self));
}
