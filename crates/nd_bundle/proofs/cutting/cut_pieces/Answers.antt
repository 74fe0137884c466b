use Rattle.std.proofs.Common.{sym, ◌∙◌}
use Rattle.nd_bundle.proofs.Newlines.{one_more_piece, all_pieces}
use Rattle.nd_bundle.proofs.cutting.cut_pieces.Goals as goal

pub loop-left-preserved : goal.loop-left-preserved
loop-left-preserved c =
    one_more_piece c.args.text.now c.loop-left.left.now c.loop-left.found.items c.push.new.self.items c.first_piece.result.0 c.first_piece.result.1 c.in_ok-push.ensures.items c.first_piece.ensures.lines c.loop-left.invariant

pub returns : goal.returns
returns c = all_pieces c.args.text.now c.loop-left.left.now c.loop-left.found.items (sym c.is_empty.ensures ∙ c.loop-left-test.false) c.loop-left.invariant
