use Rattle.std.proofs.Common.{◌≡◌, take}
use Rattle.nd_graph.specs.Graphs.{nodes_of}
use Rattle.nd_failure.proofs.edges.list_nodes.Given as goal

abbrev pub invariant-loop-input : goal.invariant-loop-input
invariant-loop-input l = l.nodes.items ≡ take l.input-index (nodes_of l.inputs)
