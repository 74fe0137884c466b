use Rattle.std.proofs.Common.{◌<◌, get_or, length, arith, inl, inr, sym, ◌∙◌, eqb-true, eq-eqb}
use Rattle.std.proofs.lemmas.Bool.{false≢true}
use Rattle.nd_failure.proofs.VisitFacts.{AreWoken-more}
use Rattle.nd_failure.proofs.unbuilt.wake.Goals as goal
use Rattle.nd_failure.proofs.unbuilt.wake.Goals.{then-is_none, else-is_none}

pub loop-node-preserved : goal.loop-node-preserved
loop-node-preserved c =
    let node = get_or c.args.nodes.now c.loop-node.node-index 0 in
    let in_range : node < length c.loop-node.ready =
    omega (arith, c.requires.in_range c.loop-node.node-index 0 c.loop-node-test.true, c.loop-node.invariant.sized) in
    AreWoken-more c.args.nodes.now c.args.unbuilt.now c.loop-node.node-index c.args.ready.now c.loop-node.ready c.if-is_none.ready
    c.loop-node-test.true c.loop-node.invariant in_range
    (elim c.if-is_none.branch [
      | then-is_none w ↦ inl (eqb-true (get_or c.args.unbuilt.now node 0) 0 (sym c.is_none.ensures ∙ w.if-is_none.true), w.ready-is ∙ w.insert.ensures)
      | else-is_none w ↦ inr (λ none. false≢true (sym w.if-is_none.false ∙ c.is_none.ensures ∙ eq-eqb (get_or c.args.unbuilt.now node 0) 0 none), w.ready-is)
    ])
