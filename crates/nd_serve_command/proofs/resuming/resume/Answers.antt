use Rattle.std.proofs.Common.{◌∙◌, ap}
use Rattle.nd_serve_command.specs.Resumes.{journal_refusal}
use Rattle.nd_serve_command.proofs.resuming.resume.Goals as goal

pub returns-in-Err-clause-exactly : goal.returns-in-Err-clause-exactly
returns-in-Err-clause-exactly c = λ entries h. c.of_journal.ensures ∙ ap journal_refusal (c.in-Err.ensures.exactly entries h.read)
