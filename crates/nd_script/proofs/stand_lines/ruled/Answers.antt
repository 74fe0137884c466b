use Rattle.nd_script.proofs.stand_lines.ruled.Goals as goal

pub returns-in-Built-clause-refused : goal.returns-in-Built-clause-refused
returns-in-Built-clause-refused c = rw c.in-Built.is c.built_rule.ensures.refused

pub returns-in-Fail-clause-refused : goal.returns-in-Fail-clause-refused
returns-in-Fail-clause-refused c = rw c.in-Fail.is c.fail_rule.ensures.refused
