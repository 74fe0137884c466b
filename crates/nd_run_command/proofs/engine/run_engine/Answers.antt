use Rattle.std.proofs.Common.{vec_len, arith}
use Rattle.std.proofs.lemmas.Result.{IfErr-weaker, IfOk-weaker}
use Rattle.nd_run_command.proofs.Endings.{came_back, comes_back, runs_to, run_fault, refused_fault, so_many}
use Rattle.nd_run_command.specs.Ran.{ComesBack}
use Rattle.nd_run_command.proofs.engine.run_engine.Goals as goal

pub returns-in-Ok-clause-fault : goal.returns-in-Ok-clause-fault
returns-in-Ok-clause-fault g c =
    let end = c.in-Ok.end in
    let told = c.write_and_answer-answer in
    let state = g.T.Transport.state in
    let back = came_back c.args.dispatch end.dispatch end.fault told.ensures.legal c.in-Ok.ensures.runs c.in-Ok.ensures.goes_on c.in-Ok.ensures.quiet c.in-Ok.ensures.thread c.in-Ok.ensures.memory c.in-Ok.ensures.unkept in
    let comes = comes_back state c.args.dispatch c.args.workers.items end back c.in-Ok.ensures.fault c.in-Ok.ensures.receipted c.in-Ok.ensures.calls in
    IfErr-weaker told.result _ _
    (λ e h. run_fault (ComesBack state c.args.dispatch c.args.workers.items) end.dispatch end.fault (vec_len c.args.workers) c.args.report g.W.Write.contents c.args.output.now told.new.output e comes h)
    told.ensures.fault

pub returns-in-Err-clause-fault : goal.returns-in-Err-clause-fault
returns-in-Err-clause-fault g c =
    refused_fault (ComesBack g.T.Transport.state c.args.dispatch c.args.workers.items) c.args.dispatch.inputs _ (vec_len c.args.workers) c.args.report g.W.Write.contents c.args.output.now c.in-Err.refused.why c.refusal-fault.result
    c.in-Err.ensures.refused (so_many _ _ _ (let whole = c.args.workers.ok.0 in omega arith)) c.refusal-fault.ensures

pub returns-in-Ok-clause-answer : goal.returns-in-Ok-clause-answer
returns-in-Ok-clause-answer g c =
    let end = c.in-Ok.end in
    let told = c.write_and_answer-answer in
    let state = g.T.Transport.state in
    let back = came_back c.args.dispatch end.dispatch end.fault told.ensures.legal c.in-Ok.ensures.runs c.in-Ok.ensures.goes_on c.in-Ok.ensures.quiet c.in-Ok.ensures.thread c.in-Ok.ensures.memory c.in-Ok.ensures.unkept in
    let comes = comes_back state c.args.dispatch c.args.workers.items end back c.in-Ok.ensures.fault c.in-Ok.ensures.receipted c.in-Ok.ensures.calls in
    IfOk-weaker told.result _ _
    (λ status h. runs_to (ComesBack state c.args.dispatch c.args.workers.items) end.dispatch end.fault c.args.report status (g.W.Write.contents c.args.output.now.device) (g.W.Write.contents told.new.output.device) comes h)
    told.ensures.answer
