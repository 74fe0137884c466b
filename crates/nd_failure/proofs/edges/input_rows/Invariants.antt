use Rattle.std.proofs.Common.{◌≡◌, take}
use Rattle.nd_graph.specs.Graphs.{rows_of}
use Rattle.nd_failure.proofs.edges.input_rows.Given as goal

abbrev pub invariant-loop-node : goal.invariant-loop-node
invariant-loop-node l = l.rows ≡ take l.node (rows_of l.graph)
