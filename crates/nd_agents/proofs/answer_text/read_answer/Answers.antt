use Rattle.std.specs.Prelude.{Err}
use Rattle.nd_agents.proofs.Once.{answer_once, other_lists, none_for, exactly_that}
use Rattle.nd_agents.proofs.answer_text.read_answer.Goals as goal

pub returns-then-has_lists-clause-exactly : goal.returns-then-has_lists-clause-exactly
returns-then-has_lists-clause-exactly c = λ answer is. answer_once c.args.line.now c.in-Ok.answer answer c.in-Ok.ensures.found is.says

pub returns-else-has_lists-clause-refused : goal.returns-else-has_lists-clause-refused
returns-else-has_lists-clause-refused c =
    other_lists c.args.outputs c.args.line.now c.in-Ok.answer c.in-Ok.ensures.found (c.has_lists.ensures.no c.if-has_lists.false)

pub returns-else-has_lists-clause-exactly : goal.returns-else-has_lists-clause-exactly
returns-else-has_lists-clause-exactly c = λ answer is.
    absurd (other_lists c.args.outputs c.args.line.now c.in-Ok.answer c.in-Ok.ensures.found (c.has_lists.ensures.no c.if-has_lists.false) answer is)

pub returns-in-Err-clause-refused : goal.returns-in-Err-clause-refused
returns-in-Err-clause-refused c = none_for c.args.outputs c.args.line.now c.in-Err.fault c.in-Err.ensures.refused

pub returns-in-Err-clause-exactly : goal.returns-in-Err-clause-exactly
returns-in-Err-clause-exactly c = exactly_that c.args.outputs c.args.line.now (Err c.in-Err.fault) tt (none_for c.args.outputs c.args.line.now c.in-Err.fault c.in-Err.ensures.refused)
