use Rattle.std.proofs.Common.{sym, ◌∙◌}
use Rattle.std.proofs.result.Match.{err_is}
use Rattle.nd_commands.specs.Opened.{inputs_of}
use Rattle.nd_commands.proofs.Answering.{audit_answered, audit_begun, verdict_fault, read_no_write, audit_read_no_write, verdict_ends}
use Rattle.nd_commands.proofs.audit.audit_engine.Goals as goal

pub returns-in_err-given-clause-fault : goal.returns-in_err-given-clause-fault
returns-in_err-given-clause-fault g c = rw (err_is c.from_residual.result _ c.from_residual.ensures.1) (c.in_err-given.ensures.fault c.args.output.now.is_marked)

pub returns-in-Ok-clause-answer : goal.returns-in-Ok-clause-answer
returns-in-Ok-clause-answer g c =
    let park = c.in_ok-given.given.park in
    audit_answered c.args.options.now c.args.history.now c.in-Ok.status g.R.Read.remaining c.args.input.now c.read_audit_inputs.new.input
    g.W.Write.contents c.args.output.now c.write_verdict.new.output
    (inputs_of c.args.options.now park.graph park.machines.items park.local park.info.entries) c.in_ok-given.given.entries.items
    c.in_ok-given.ensures.read c.in_ok-given.ensures.entries c.in-Ok.ensures.written

pub returns-in-Err-clause-fault : goal.returns-in-Err-clause-fault
returns-in-Err-clause-fault g c =
    verdict_fault c.args.options.now c.args.history.now g.R.Read.remaining c.args.input.now c.read_audit_inputs.new.input
    c.write_verdict.new.output.is_marked c.in-Err.fault c.in-Err.ensures.fault

pub returns-in-Err-clause-partly : goal.returns-in-Err-clause-partly
returns-in-Err-clause-partly g c = λ write_failed.
    let park = c.in_ok-given.given.park in
    audit_begun c.args.options.now c.args.history.now g.R.Read.remaining c.args.input.now c.read_audit_inputs.new.input
    g.W.Write.contents c.args.output.now c.write_verdict.new.output
    (inputs_of c.args.options.now park.graph park.machines.items park.local park.info.entries) c.in_ok-given.given.entries.items
    c.in_ok-given.ensures.read c.in_ok-given.ensures.entries (c.in-Err.ensures.partly write_failed)

pub returns-in_err-given-clause-partly : goal.returns-in_err-given-clause-partly
returns-in_err-given-clause-partly g c =
    rw (err_is c.from_residual.result _ c.from_residual.ensures.1)
    (λ is_write.
    absurd (read_no_write c.args.options.now c.args.history.now g.R.Read.remaining c.args.input.now c.read_audit_inputs.new.input
    c.in_err-given.field-0.0 c.in_err-given.ensures.fault is_write))

pub returns-in_err-given-clause-writer_mark : goal.returns-in_err-given-clause-writer_mark
returns-in_err-given-clause-writer_mark g c =
    rw (err_is c.from_residual.result _ c.from_residual.ensures.1)
    (c.requires.writer ∙ sym (audit_read_no_write c.args.options.now c.args.history.now g.R.Read.remaining c.args.input.now c.read_audit_inputs.new.input
    c.in_err-given.field-0.0 c.in_err-given.ensures.fault))

pub returns-in-Err-clause-exactly : goal.returns-in-Err-clause-exactly
returns-in-Err-clause-exactly g c = λ text known accepted. verdict_ends c.write_verdict.new.output.is_marked c.in-Err.fault c.in-Err.ensures.fault

pub returns-in_err-given-clause-exactly : goal.returns-in_err-given-clause-exactly
returns-in_err-given-clause-exactly g c = rw (err_is c.from_residual.result _ c.from_residual.ensures.1) c.in_err-given.ensures.exactly
