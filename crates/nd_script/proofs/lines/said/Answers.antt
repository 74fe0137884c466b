use Rattle.std.proofs.Common.{ap}
use Rattle.std.specs.Option.{option_copied}
use Rattle.nd_script.proofs.Operands.{no_stop}
use Rattle.nd_script.proofs.lines.said.Goals as goal

pub returns-in-Built-clause-refused : goal.returns-in-Built-clause-refused
returns-in-Built-clause-refused c = rw c.in-Built.is c.built.ensures.refused

pub returns-in-Fail-clause-refused : goal.returns-in-Fail-clause-refused
returns-in-Fail-clause-refused c = rw c.in-Fail.is c.fail.ensures.refused

pub returns-in-Some-words-clause-refused : goal.returns-in-Some-words-clause-refused
returns-in-Some-words-clause-refused c = rw c.in-Stop.is (no_stop (option_copied c.args.words) c.in-Some-words.field-0.now (ap option_copied c.in-Some-words.is))
