use Rattle.std.proofs.Common.{◌≡◌, length, ap, ◌∙◌}
use Rattle.std.proofs.lemmas.Result.{IfOk-weaker}
use Rattle.nd_graph.specs.Graphs.{Nodes}
use Rattle.nd_history.specs.Choices.{machines_in}
use Rattle.nd_serve.proofs.Prepares.{asked_here, request_named}
use Rattle.nd_serve.proofs.preparing.request_of.Goals as goal

pub returns-clause-asks : goal.returns-clause-asks
returns-clause-asks c =
    let i = c.args.dispatch.now.inputs in
    let all : c.len-drvs.result ≡ length i.graph.paths = c.len-drvs.ensures.len ∙ ap (λ (nodes : Nodes). length nodes.paths) c.graph.ensures in
    let park : c.machine_count-machines.result ≡ machines_in i = c.machine_count-machines.ensures in
    IfOk-weaker c.read_request.result _ _
    (λ request asks. asked_here i c.len-drvs.result c.machine_count-machines.result c.args.line.now request all park asks) c.read_request.ensures

pub returns-clause-named : goal.returns-clause-named
returns-clause-named c =
    IfOk-weaker c.read_request.result _ _
    (λ request asks. request_named c.args.dispatch.now.inputs c.args.line.now request asks) (returns-clause-asks c)
