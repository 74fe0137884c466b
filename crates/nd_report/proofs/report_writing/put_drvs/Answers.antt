use Rattle.std.proofs.Common.{◌≡◌, ◌<◌, length, ap, arith}
use Rattle.nd_graph.specs.Graphs.{Nodes, rows_of}
use Rattle.nd_history.specs.Standing.{drvs_in}
use Rattle.nd_report.proofs.Rows.{drvs_begun, drvs_more, drvs_refused, drvs_put}
use Rattle.nd_report.proofs.report_writing.put_drvs.Goals as goal

pub loop-drv-init : goal.loop-drv-init
loop-drv-init g c = drvs_begun _ _ _ _ _

pub loop-drv-preserved : goal.loop-drv-preserved
loop-drv-preserved g c = drvs_more _ _ c.loop-drv.drv _ _ _ _ _ _ c.status.result _ _ c.loop-drv.invariant c.status.ensures c.in_ok-put_drv.ensures

pub returns-in_err-put_drv : goal.returns-in_err-put_drv
returns-in_err-put_drv g c =
    let same : length (rows_of c.graph.result.now) ≡ drvs_in c.args.dispatch.now.inputs = ap (λ (g : Nodes). length (rows_of g)) c.graph.ensures in
    let within : c.loop-drv.drv < drvs_in c.args.dispatch.now.inputs = omega (arith, same) in
    drvs_refused _ _ c.loop-drv.drv _ _ _ _ _ _ c.status.result _ _ _ within c.from_residual.ensures.0 c.loop-drv.invariant c.status.ensures c.in_err-put_drv.ensures

pub returns : goal.returns
returns g c =
    let same : length (rows_of c.graph.result.now) ≡ drvs_in c.args.dispatch.now.inputs = ap (λ (g : Nodes). length (rows_of g)) c.graph.ensures in
    let all : c.loop-drv.drv ≡ drvs_in c.args.dispatch.now.inputs = omega (arith, same) in
    drvs_put _ _ c.loop-drv.drv _ _ _ _ _ all c.loop-drv.invariant
