use Rattle.nd_cli.proofs.path.derivation_path.Goals as goal

pub returns-in-Ok-clause-exactly : goal.returns-in-Ok-clause-exactly
returns-in-Ok-clause-exactly c = λ path has. c.in-Ok.ensures.exactly path has.is
