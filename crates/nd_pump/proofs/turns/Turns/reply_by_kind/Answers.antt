use Rattle.std.proofs.Common.{reverse}
use Rattle.nd_history.specs.Premises.{premises_of}
use Rattle.nd_pump.proofs.Waiting.{kind_replies}
use Rattle.nd_pump.proofs.Taking.{kind_named, kind_ranged}
use Rattle.nd_pump.proofs.turns.Turns.reply_by_kind.Goals as goal

pub reply_kind-requires-clause-rising : goal.reply_kind-requires-clause-rising
reply_kind-requires-clause-rising c = (kind_named (premises_of c.args.inputs.now) _ _ c.args.drv c.need-need.result.now c.kind_of-kind.result.now c.self.view_is c.requires.kinds c.need-need.ensures c.kind_of-kind.ensures).eligible.rising

pub reply_kind-requires-clause-ranged : goal.reply_kind-requires-clause-ranged
reply_kind-requires-clause-ranged c =
    kind_ranged (premises_of c.args.inputs.now) c.need-need.result.now c.kind_of-kind.result.now
    (kind_named (premises_of c.args.inputs.now) _ _ c.args.drv c.need-need.result.now c.kind_of-kind.result.now c.self.view_is c.requires.kinds c.need-need.ensures c.kind_of-kind.ensures)

pub returns : goal.returns
returns c =
    kind_replies (premises_of c.args.inputs.now) (reverse c.args.book.now.entries) c.args.drv c.need-need.result.now c.kind_of-kind.result.now c.reply_kind.result c.need-need.ensures
    (kind_named (premises_of c.args.inputs.now) _ _ c.args.drv c.need-need.result.now c.kind_of-kind.result.now c.self.view_is c.requires.kinds c.need-need.ensures c.kind_of-kind.ensures)
    c.reply_kind.ensures
