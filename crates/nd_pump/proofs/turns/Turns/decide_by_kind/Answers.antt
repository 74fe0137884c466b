use Rattle.std.proofs.Common.{reverse}
use Rattle.nd_history.specs.Premises.{premises_of}
use Rattle.nd_pump.proofs.Waiting.{kind_decides}
use Rattle.nd_pump.proofs.Taking.{kind_named, kind_ranged}
use Rattle.nd_pump.proofs.turns.Turns.decide_by_kind.Goals as goal

pub decide_kind-requires-clause-rising : goal.decide_kind-requires-clause-rising
decide_kind-requires-clause-rising c = (kind_named (premises_of c.args.inputs.now) _ _ c.args.drv c.need-need.result.now c.kind_of-kind.result.now c.self.view_is c.requires.kinds c.need-need.ensures c.kind_of-kind.ensures).eligible.rising

pub decide_kind-requires-clause-ranged : goal.decide_kind-requires-clause-ranged
decide_kind-requires-clause-ranged c =
    kind_ranged (premises_of c.args.inputs.now) c.need-need.result.now c.kind_of-kind.result.now
    (kind_named (premises_of c.args.inputs.now) _ _ c.args.drv c.need-need.result.now c.kind_of-kind.result.now c.self.view_is c.requires.kinds c.need-need.ensures c.kind_of-kind.ensures)

pub returns-clause-decision : goal.returns-clause-decision
returns-clause-decision c =
    kind_decides (premises_of c.args.inputs.now) (reverse c.args.book.now.entries) c.args.drv c.need-need.result.now c.kind_of-kind.result.now c.decide_kind.result c.need-need.ensures
    (kind_named (premises_of c.args.inputs.now) _ _ c.args.drv c.need-need.result.now c.kind_of-kind.result.now c.self.view_is c.requires.kinds c.need-need.ensures c.kind_of-kind.ensures)
    c.decide_kind.ensures.decision
