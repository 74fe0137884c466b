use Rattle.std.proofs.Common.{List, Bool, ℕ, get_or, inl, inr, sym, subst, ap, length, ◌∙◌, eqb-true, eq-eqb, arith}
use Rattle.std.proofs.lemmas.Bool.{false≢true}
use Rattle.nd_failure.specs.Kept.{AreZeroTo}
use Rattle.nd_failure.proofs.VisitFacts.{AreZeroTo-none, AreZeroTo-more}
use Rattle.nd_failure.proofs.unbuilt.UnbuiltInputs.nodes_with_none.Goals as goal
use Rattle.nd_failure.proofs.unbuilt.UnbuiltInputs.nodes_with_none.Goals.{then-is_none, else-is_none}

pub loop-node-init : goal.loop-node-init
loop-node-init c =
    subst (λ (xs : List Bool). AreZeroTo 0 c.args.self.now xs) (sym c.in_ok-nodes.ensures)
    (AreZeroTo-none c.args.self.now c.len.result
    (omega (arith, c.len.ensures, c.self.inside.counts.ok.0, ap (λ (xs : List ℕ). length xs) c.self.view_is)))

pub loop-node-preserved : goal.loop-node-preserved
loop-node-preserved c =
    let here = get_or c.args.self.now c.loop-node.node 0 in
    AreZeroTo-more c.args.self.now c.loop-node.node c.loop-node.nodes c.if-is_none.nodes c.loop-node.invariant
    (omega (arith, c.len-node-end.ensures, c.self.inside.counts.ok.0, ap (λ (xs : List ℕ). length xs) c.self.view_is))
    (elim c.if-is_none.branch [
      | then-is_none w ↦ inl (eqb-true here 0 (sym c.is_none.ensures ∙ w.if-is_none.true), w.nodes-is ∙ w.insert.ensures)
      | else-is_none w ↦ inr (λ none. false≢true (sym w.if-is_none.false ∙ c.is_none.ensures ∙ eq-eqb here 0 none), w.nodes-is)
    ])
