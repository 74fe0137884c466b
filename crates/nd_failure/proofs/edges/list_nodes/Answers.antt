use Rattle.std.proofs.Common.{ℕ, List, [], ◌∷◌, ◌++◌, take, ap, sym, ◌∙◌, arith}
use Rattle.std.proofs.lemmas.List.{take_more, get_or-map, length-map}
use Rattle.nd_graph.specs.Graphs.{nodes_of}
use Rattle.nd_graph.specs.declared.graph.Input.{Input}
use Rattle.nd_failure.proofs.edges.list_nodes.Goals as goal

pub loop-input-preserved : goal.loop-input-preserved
loop-input-preserved c =
    let inputs = c.args.inputs.now in
    let i = c.loop-input.input-index in
    let node : Input → ℕ = λ x. x.node in
    c.in_ok-push.ensures.items ∙ ap (λ (ys : List ℕ). ys ++ c.input-item.result.node ∷ []) c.loop-input.invariant
    ∙ ap (λ (n : ℕ). take i (nodes_of inputs) ++ n ∷ []) (ap node c.input-item.is ∙ sym (get_or-map node inputs i c.input-item.result 0 (omega arith)))
    ∙ sym (take_more (nodes_of inputs) i 0 (omega (arith, length-map inputs node)))
