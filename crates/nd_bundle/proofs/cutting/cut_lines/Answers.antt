use Rattle.std.proofs.Common.{◌∷◌, Some, None, sym, ap, ◌∙◌}
use Rattle.std.specs.Option.{option_copied}
use Rattle.nd_bytes.specs.Cut.{pieces}
use Rattle.nd_bundle.proofs.Newlines.{one_more, all_found}
use Rattle.nd_bundle.proofs.cutting.cut_lines.Goals as goal

pub loop-left-preserved-in-Some : goal.loop-left-preserved-in-Some
loop-left-preserved-in-Some c =
    one_more c.args.text.now c.loop-left.left.now c.loop-left.found.items c.push.new.self.items c.cut.result.0 (Some c.in-Some.behind.now) (sym c.is_empty.ensures ∙ c.loop-left-test.true)
    (c.cut.ensures.whole ∙ ap (λ r. c.cut.result.0.now ∷ pieces 10 (option_copied r)) c.in-Some.is) c.in_ok-push.ensures.items c.loop-left.invariant

pub loop-left-preserved : goal.loop-left-preserved
loop-left-preserved c =
    one_more c.args.text.now c.loop-left.left.now c.loop-left.found.items c.push.new.self.items c.cut.result.0 None (sym c.is_empty.ensures ∙ c.loop-left-test.true)
    (c.cut.ensures.whole ∙ ap (λ r. c.cut.result.0.now ∷ pieces 10 (option_copied r)) c.in-None.is) c.in_ok-push.ensures.items c.loop-left.invariant

pub returns : goal.returns
returns c = all_found c.args.text.now c.loop-left.left.now c.loop-left.found.items (sym c.is_empty.ensures ∙ c.loop-left-test.false) c.loop-left.invariant
