use Rattle.std.proofs.Common.{◌∙◌, ℕ, length, refl, sym, inr}
use Rattle.nd_kept_run.proofs.Judged.{audited_answer, torn_answer, told_answer}
use Rattle.nd_kept_run.proofs.Told.{report_marked, read_unmarked}
use Rattle.nd_kept_run.proofs.auditing.audit_journal_engine.Goals as goal

pub returns-in-Ok-clause-answer : goal.returns-in-Ok-clause-answer
returns-in-Ok-clause-answer g c =
    let told = c.tell in
    audited_answer c.args.options.now c.args.journal.now g.R.Read.remaining c.args.input.now c.judge.new.input g.W.Write.contents c.args.output.now told.new.output
    c.in-Ok.verdict told.result c.in-Ok.ensures.judged told.ensures.status told.ensures.written

pub returns-in-Ok-clause-fault : goal.returns-in-Ok-clause-fault
returns-in-Ok-clause-fault g c =
    let told = c.tell in
    torn_answer c.args.options.now c.args.journal.now g.R.Read.remaining c.args.input.now c.judge.new.input g.W.Write.contents c.args.output.now told.new.output
    c.in-Ok.verdict told.result c.in-Ok.ensures.judged told.ensures.fault told.ensures.partly

pub returns-in-Ok-clause-writer_mark : goal.returns-in-Ok-clause-writer_mark
returns-in-Ok-clause-writer_mark g c = report_marked c.tell.result c.tell.new.output.is_marked c.tell.ensures.fault c.tell.ensures.mark

pub returns-in-Ok-clause-exactly : goal.returns-in-Ok-clause-exactly
returns-in-Ok-clause-exactly g c = λ text world known accepts.
    let told = c.tell in
    told_answer c.in-Ok.verdict (length world.history) (g.W.Write.contents c.args.output.now.device) (g.W.Write.contents told.new.output.device) told.result
    (c.in-Ok.ensures.exactly text world known accepts) told.ensures.status told.ensures.written told.ensures.fault

pub returns-in-Err-clause-fault : goal.returns-in-Err-clause-fault
returns-in-Err-clause-fault g c = inr (record { why = c.in-Err.ensures.fault; untouched = refl })

pub returns-in-Err-clause-writer_mark : goal.returns-in-Err-clause-writer_mark
returns-in-Err-clause-writer_mark g c =
    c.requires.writer ∙ sym (read_unmarked ℕ c.args.options.now c.args.journal.now g.R.Read.remaining c.args.input.now c.judge.new.input c.in-Err.fault (c.in-Err.ensures.fault).why)

pub returns-in-Err-clause-exactly : goal.returns-in-Err-clause-exactly
returns-in-Err-clause-exactly g c = c.in-Err.ensures.exactly
