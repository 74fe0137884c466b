use Rattle.std.proofs.Common.{◌++◌, ◌∷◌, [], append_assoc, ap, sym, ◌∙◌}
use Rattle.std.specs.Vec.Iter.{into_iter_items}
use Rattle.nd_links.proofs.linking.link_lines.Goals as goal
use Rattle.nd_links.proofs.Gathered.{links_pushed}

pub loop-inputs-preserved : goal.loop-inputs-preserved
loop-inputs-preserved c = record {
  links = links_pushed c.args.register.now c.loop-inputs.yielded c.loop-inputs.rows.items c.push.new.self.items c.in-Some.inputs c.link_line.result c.as_slice.result.now c.as_slice.ensures c.loop-inputs.invariant.links c.in_ok-push.ensures.items c.link_line.ensures;
  whole = c.loop-inputs.invariant.whole ∙ ap (λ rest. c.loop-inputs.yielded ++ rest) c.in-Some.ensures.steps.0 ∙ sym (append_assoc c.loop-inputs.yielded (c.in-Some.inputs ∷ []) (into_iter_items c.next.new.self));
}
