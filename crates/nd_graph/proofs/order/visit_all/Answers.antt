use Rattle.std.proofs.Common.{arith}
use Rattle.nd_graph.specs.Graphs.{needed}
use Rattle.nd_graph.proofs.Rows.{rows_length}
use Rattle.nd_graph.proofs.Searching.{ended}
use Rattle.nd_graph.proofs.order.visit_all.Goals as goal

pub returns-clause-ok : goal.returns-clause-ok
returns-clause-ok c =
    ended (needed c.args.inputs.now) c.loop-root.left c.loop-root.order.items c.loop-root.invariant.search
    (λ d lt. c.loop-root.invariant.done d (omega (arith, lt, rows_length c.args.inputs.now, c.loop-root-test.false)))
