use Rattle.std.proofs.Common.{List, length, ap, ◌∙◌}
use Rattle.nd_graph.specs.Walks.{inputs_of}
use Rattle.nd_failure.specs.Progress.{Progress}
use Rattle.nd_failure.specs.declared.status.Mark.{Mark}
use Rattle.nd_failure.proofs.PlainFacts.{order_inputs_within, ready_told}
use Rattle.nd_failure.proofs.plain.PlainBoard.is_ready.Goals as goal

pub are_built-requires : goal.are_built-requires
are_built-requires c =
    order_inputs_within c.self.inside.inputs c.self.inside.order.items c.args.i c.row.result.now (length c.as_slice.result.now)
    c.self.invariant.ordered c.row.ensures (ap (λ (xs : List Mark). length xs) c.as_slice.ensures.value ∙ c.self.invariant.marked)

pub returns-in-Waiting : goal.returns-in-Waiting
returns-in-Waiting c =
    ready_told c.args.self.now c.args.i c.row.result.now c.as_slice.result.now c.are_built.result c.requires c.in-Waiting.ensures
    (c.row.ensures ∙ ap (λ (p : Progress). inputs_of p.inputs c.args.i) c.self.view_is)
    (c.as_slice.ensures.value ∙ ap (λ (p : Progress). p.marks) c.self.view_is) c.are_built.ensures
