use Rattle.std.proofs.Common.{◌∙◌, ap, vec_len, arith}
use Rattle.std.proofs.lemmas.Result.{IfErr-weaker, IfOk-weaker}
use Rattle.nd_keeping.specs.Scribing.{Scribing}
use Rattle.nd_run_command.proofs.Endings.{came_back_kept, so_many}
use Rattle.nd_kept_run.specs.KeptRuns.{ComesBackKept}
use Rattle.nd_kept_run.proofs.Kept.{held_by, comes_back_kept, runs_kept, kept_fault, unrun_fault}
use Rattle.nd_kept_run.proofs.engine.run_kept_engine.Goals as goal

pub returns-in-Ok-clause-answer : goal.returns-in-Ok-clause-answer
returns-in-Ok-clause-answer g c =
    let run = c.in-Ok.written.run in
    let told = c.write_and_answer-answer in
    let stored = g.J.Journal.stored c.journal_of.result in
    let held = held_by c.args.dispatch run.dispatch _ _ run.evidence run.fault c.in-Ok.written.scribe stored c.in-Ok.ensures.fault c.in-Ok.ensures.written c.journal_of.ensures in
    let back = came_back_kept c.args.dispatch run.dispatch run.fault told.ensures.legal c.in-Ok.ensures.runs c.in-Ok.ensures.goes_on c.in-Ok.ensures.quiet c.in-Ok.ensures.thread c.in-Ok.ensures.memory c.in-Ok.ensures.journal in
    let comes = comes_back_kept g.T.Transport.state c.args.scribe c.args.dispatch c.args.workers.items run back c.in-Ok.ensures.fault c.in-Ok.ensures.receipted c.in-Ok.ensures.calls in
    IfOk-weaker told.result _ _
    (λ status h. runs_kept (ComesBackKept g.T.Transport.state c.args.scribe c.args.dispatch c.args.workers.items) run.dispatch run.fault c.args.report status stored (g.W.Write.contents c.args.output.now.device) (g.W.Write.contents told.new.output.device) (record { back = comes; held = held }) h)
    told.ensures.answer

pub returns-in-Ok-clause-fault : goal.returns-in-Ok-clause-fault
returns-in-Ok-clause-fault g c =
    let run = c.in-Ok.written.run in
    let told = c.write_and_answer-answer in
    let stored = g.J.Journal.stored c.journal_of.result in
    let held = held_by c.args.dispatch run.dispatch _ _ run.evidence run.fault c.in-Ok.written.scribe stored c.in-Ok.ensures.fault c.in-Ok.ensures.written c.journal_of.ensures in
    let back = came_back_kept c.args.dispatch run.dispatch run.fault told.ensures.legal c.in-Ok.ensures.runs c.in-Ok.ensures.goes_on c.in-Ok.ensures.quiet c.in-Ok.ensures.thread c.in-Ok.ensures.memory c.in-Ok.ensures.journal in
    let comes = comes_back_kept g.T.Transport.state c.args.scribe c.args.dispatch c.args.workers.items run back c.in-Ok.ensures.fault c.in-Ok.ensures.receipted c.in-Ok.ensures.calls in
    IfErr-weaker told.result _ _
    (λ e h. kept_fault (ComesBackKept g.T.Transport.state c.args.scribe c.args.dispatch c.args.workers.items) run.dispatch run.fault (vec_len c.args.workers) c.args.report c.args.scribe.stored stored g.W.Write.contents c.args.output.now told.new.output e (record { back = comes; held = held }) h)
    told.ensures.fault

pub returns-in-Err-clause-fault : goal.returns-in-Err-clause-fault
returns-in-Err-clause-fault g c =
    unrun_fault (ComesBackKept g.T.Transport.state c.args.scribe c.args.dispatch c.args.workers.items) c.args.dispatch.inputs _ (vec_len c.args.workers) c.args.report c.args.scribe.stored (g.J.Journal.stored c.into_journal.result) g.W.Write.contents c.args.output.now c.in-Err.refused.run.why c.refusal-fault.result
    c.in-Err.ensures.refused (so_many _ _ _ (let whole = c.args.workers.ok.0 in omega arith)) c.refusal-fault.ensures
    (c.into_journal.ensures ∙ ap (λ (s : Scribing). s.stored) c.in-Err.ensures.scribe)
