use Rattle.std.proofs.Common.{inl, inr, ◌∙◌}
use Rattle.nd_failure.proofs.PlainFacts.{order_inputs_within, AreDoomedTo-more, AreDoomed-all}
use Rattle.nd_failure.proofs.plain.find_doomed.Goals as goal
use Rattle.nd_failure.proofs.plain.find_doomed.Goals.{then-has_failed_input, else-has_failed_input}

pub has_failed_input-requires-clause-in_range : goal.has_failed_input-requires-clause-in_range
has_failed_input-requires-clause-in_range c =
    order_inputs_within c.args.inputs.now c.args.order.now _ c.row.result.now _ c.requires.order c.row.ensures c.requires.marked

pub loop-node-preserved : goal.loop-node-preserved
loop-node-preserved c =
    AreDoomedTo-more c.args.order.now c.args.inputs.now c.args.marks.now c.loop-node.doomed c.if-has_failed_input.doomed c.row.result.now
    c.loop-node.node-index c.requires.order c.loop-node-test.true c.loop-node.invariant c.row.ensures
    (elim c.if-has_failed_input.branch [
      | then-has_failed_input w ↦ inl (w.if-has_failed_input.ensures, w.doomed-is ∙ w.insert.ensures)
      | else-has_failed_input w ↦ inr (w.if-has_failed_input.ensures, w.doomed-is)
    ])

pub returns : goal.returns
returns c =
    AreDoomed-all c.args.order.now c.args.inputs.now c.args.marks.now c.loop-node.doomed c.loop-node.node-index c.requires.order
    c.loop-node-test.false c.loop-node.invariant
