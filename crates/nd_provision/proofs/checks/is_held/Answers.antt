use Rattle.nd_provision.proofs.Checking.{on_machine, off_machine}
use Rattle.nd_provision.proofs.checks.is_held.Goals as goal

pub returns-in-Some : goal.returns-in-Some
returns-in-Some c = on_machine c.args.numbers.now.paths c.args.held.now.numbers c.args.path.now c.in-Some.number c.contains.result c.in-Some.ensures c.contains.ensures

pub returns-in-None : goal.returns-in-None
returns-in-None c = off_machine c.args.numbers.now.paths c.args.held.now.numbers c.args.path.now c.in-None.ensures
