use Rattle.nd_provision.proofs.Joined.{with_graph, input_there, node_there}
use Rattle.nd_provision.proofs.near.is_of_input.Goals as goal

pub outputs-outputs-requires : goal.outputs-outputs-requires
outputs-outputs-requires c =
    let i = with_graph c.args.graph.now in
    let there = input_there i c.args.drv c.inputs-input-items.result.now c.loop-input.input-index c.input-item.result c.inputs-input-items.ensures.inputs c.loop-input-test.true c.input-item.is in
    node_there i c.args.drv c.input-item.result c.learn_graph.ensures there
