use Rattle.nd_cli.proofs.Refused.{setting_refused}
use Rattle.nd_cli.proofs.park.park_over.Goals as goal

pub returns-in-Ok-clause-exactly : goal.returns-in-Ok-clause-exactly
returns-in-Ok-clause-exactly c = λ text of graph machines info has.
    let same = c.in-Ok.ensures.exactly machines info has.builders has.references in
    record { graphs = of graph has.bundle; builders = same.builders; references = same.references }

pub returns-in-Err-clause-refused : goal.returns-in-Err-clause-refused
returns-in-Err-clause-refused c = λ text accepted. setting_refused c.args.options.now text c.in-Err.fault accepted c.in-Err.ensures.refused

pub returns-in-Err-clause-exactly : goal.returns-in-Err-clause-exactly
returns-in-Err-clause-exactly c = λ text of graph machines info has. c.in-Err.ensures.exactly machines info has.builders has.references
