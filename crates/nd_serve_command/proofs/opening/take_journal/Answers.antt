use Rattle.std.proofs.Common.{◌∙◌, ap}
use Rattle.nd_serve_command.specs.Faults.{fault_of_journal}
use Rattle.nd_serve_command.proofs.Begun.{fault_refused, journal_begun, unbegun_none}
use Rattle.nd_serve_command.proofs.opening.take_journal.Goals as goal

pub returns-in-Err-clause-refused : goal.returns-in-Err-clause-refused
returns-in-Err-clause-refused c = c.in-Err.ensures.refused c.args.dispatch.inputs

pub returns-in-Err-clause-exactly : goal.returns-in-Err-clause-exactly
returns-in-Err-clause-exactly c = λ entries may h. absurd (c.in-Err.ensures.unfit may)

pub returns-in-Ok-clause-exactly : goal.returns-in-Ok-clause-exactly
returns-in-Ok-clause-exactly c = λ entries may h. c.in-Ok.ensures.exactly entries h

pub returns-in-Err-resume-clause-exactly : goal.returns-in-Err-resume-clause-exactly
returns-in-Err-resume-clause-exactly c = λ entries may h. c.journal_fault.ensures ∙ ap fault_of_journal (c.in-Err-resume.ensures.exactly entries h)

pub returns-in-Err-resume-clause-refused : goal.returns-in-Err-resume-clause-refused
returns-in-Err-resume-clause-refused c =
    fault_refused c.args.dispatch.inputs c.args.journal.now c.args.resumes c.in-Err-resume.error c.journal_fault.result c.in_default.ensures.may c.in-Err-resume.ensures.refused
    c.journal_fault.ensures

pub invariant_of-result : goal.invariant_of-result
invariant_of-result c = record {
  begun = unbegun_none c.args.dispatch.inputs c.args.journal.now c.resume.new.dispatch.history c.in-Ok.kept c.in-Ok.ensures.resumed c.in-Ok.ensures.kept;
}

pub returns-in-Ok-clause-begun : goal.returns-in-Ok-clause-begun
returns-in-Ok-clause-begun c =
    journal_begun c.args.dispatch.inputs c.resume.new.dispatch.inputs c.args.journal.now c.resume.new.dispatch.history c.in-Ok.kept c.resume.ensures.inputs c.in-Ok.ensures.resumed
    c.in-Ok.ensures.kept
