use Rattle.std.proofs.Common.{arith}
use Rattle.nd_failure.proofs.EdgeFacts.{AreReversedTo-more, row_in_range}
use Rattle.nd_failure.proofs.edges.reversed.Goals as goal

pub add_dependant-requires : goal.add_dependant-requires
add_dependant-requires c =
    row_in_range c.args.rows.now c.loop-node.node c.row.result.now _ c.requires c.row.ensures c.loop-node.invariant.sized

pub loop-node-preserved : goal.loop-node-preserved
loop-node-preserved c =
    AreReversedTo-more c.loop-node.node c.args.rows.now c.loop-node.back c.add_dependant.new.back c.row.result.now c.loop-node.invariant
    (omega arith) c.row.ensures c.in_ok-add_dependant.ensures
