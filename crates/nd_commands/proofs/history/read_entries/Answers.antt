use Rattle.std.proofs.Common.{ap, ◌∙◌}
use Rattle.nd_commands.specs.Audited.{fault_of}
use Rattle.nd_commands.proofs.history.read_entries.Goals as goal

pub returns-in-Ok-clause-exactly : goal.returns-in-Ok-clause-exactly
returns-in-Ok-clause-exactly c = λ entries has. c.in-Ok.ensures.exactly entries has.text

pub returns-in-Err-clause-exactly : goal.returns-in-Err-clause-exactly
returns-in-Err-clause-exactly c = λ entries has. c.fault.ensures ∙ ap fault_of (c.in-Err.ensures.exactly entries has.text)
