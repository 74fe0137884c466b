use Rattle.std.proofs.Common.{ℕ, List, [], ◌∷◌, ◌++◌, length, take, map, ap, sym, ◌∙◌, arith}
use Rattle.std.proofs.lemmas.List.{take_more, get_or-map, length-map}
use Rattle.nd_failure.proofs.unbuilt.UnbuiltInputs.new.Goals as goal

pub loop-node-preserved : goal.loop-node-preserved
loop-node-preserved c =
    let rows = c.args.edges.now in
    let i = c.loop-node.node in
    let size : List ℕ → ℕ = λ row. length row in
    c.in_ok-push.ensures.items ∙ ap (λ (ys : List ℕ). ys ++ length c.inputs.result.now ∷ []) c.loop-node.invariant
    ∙ ap (λ (n : ℕ). take i (map length rows) ++ n ∷ []) (ap size c.inputs.ensures ∙ sym (get_or-map length rows i [] 0 (omega arith)))
    ∙ sym (take_more (map length rows) i 0 (omega (arith, length-map rows (length {A = ℕ}))))
