use Rattle.std.proofs.Common.{get_or, arith}
use Rattle.nd_failure.proofs.VisitFacts.{counted_before}
use Rattle.nd_failure.proofs.unbuilt.UnbuiltInputs.lower_all.Goals as goal

pub lower-requires : goal.lower-requires
lower-requires c =
    let node = get_or c.args.nodes.now c.loop-node.node-index 0 in
    omega (arith, counted_before c.args.nodes.now c.loop-node.node-index c.loop-node-test.true, c.loop-node.invariant.lowered node, c.requires node)
