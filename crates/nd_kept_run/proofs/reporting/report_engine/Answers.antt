use Rattle.std.proofs.Common.{◌∙◌, ℕ, refl, sym, inr}
use Rattle.nd_kept_run.proofs.Told.{reported, reported_part, report_marked, reported_same, read_unmarked, no_refusal}
use Rattle.nd_kept_run.proofs.reporting.report_engine.Goals as goal

pub returns-in-Ok-clause-answer : goal.returns-in-Ok-clause-answer
returns-in-Ok-clause-answer g c =
    let told = c.report_opened in
    reported c.args.options.now c.args.journal.now g.R.Read.remaining c.args.input.now c.open_session.new.input g.W.Write.contents c.args.output.now told.new.output
    c.in-Ok.opened.dispatch told.result c.in-Ok.ensures.opened told.ensures.written

pub returns-in-Ok-clause-fault : goal.returns-in-Ok-clause-fault
returns-in-Ok-clause-fault g c =
    let told = c.report_opened in
    reported_part c.args.options.now c.args.journal.now g.R.Read.remaining c.args.input.now c.open_session.new.input g.W.Write.contents c.args.output.now told.new.output
    c.in-Ok.opened.dispatch told.result c.in-Ok.ensures.opened told.ensures.partly told.ensures.fault

pub returns-in-Ok-clause-writer_mark : goal.returns-in-Ok-clause-writer_mark
returns-in-Ok-clause-writer_mark g c = report_marked c.report_opened.result c.report_opened.new.output.is_marked c.report_opened.ensures.fault c.report_opened.ensures.mark

pub returns-in-Ok-clause-exactly : goal.returns-in-Ok-clause-exactly
returns-in-Ok-clause-exactly g c = λ text world known accepts.
    let told = c.report_opened in
    reported_same c.in-Ok.opened.dispatch world (g.W.Write.contents c.args.output.now.device) (g.W.Write.contents told.new.output.device) told.result
    (c.in-Ok.ensures.exactly text world known accepts) told.ensures.written told.ensures.fault

pub returns-in-Err-clause-fault : goal.returns-in-Err-clause-fault
returns-in-Err-clause-fault g c = inr (record { why = c.in-Err.ensures.fault; untouched = refl })

pub returns-in-Err-clause-writer_mark : goal.returns-in-Err-clause-writer_mark
returns-in-Err-clause-writer_mark g c =
    c.requires.writer ∙ sym (read_unmarked ℕ c.args.options.now c.args.journal.now g.R.Read.remaining c.args.input.now c.open_session.new.input c.in-Err.fault c.in-Err.ensures.fault)

pub returns-in-Err-clause-exactly : goal.returns-in-Err-clause-exactly
returns-in-Err-clause-exactly g c = λ text world known accepts. no_refusal c.in-Err.fault (c.in-Err.ensures.exactly text world known accepts)
