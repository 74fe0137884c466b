use Rattle.std.proofs.Common.{ap, ◌∙◌}
use Rattle.nd_commands.specs.Audited.{fault_of}
use Rattle.nd_commands.proofs.Beside.{entries_alone, memory_told}
use Rattle.nd_commands.proofs.history.read_entries_ahead.Goals as goal

pub returns-in-Ok-clause-exactly : goal.returns-in-Ok-clause-exactly
returns-in-Ok-clause-exactly c = entries_alone c.args.history.now c.in_ok-entries.field-0 c.in-Ok.entries c.in-Ok.is c.in_ok-entries.ensures.exactly

pub returns-in-Err-clause-exactly : goal.returns-in-Err-clause-exactly
returns-in-Err-clause-exactly c = λ entries has.
    c.fault.ensures ∙ ap fault_of (memory_told c.args.history.now c.in_ok-entries.field-0 c.in-Err.error c.in-Err.is c.in_ok-entries.ensures.exactly entries has)
