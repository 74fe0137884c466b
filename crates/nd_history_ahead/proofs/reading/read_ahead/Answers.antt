use Rattle.nd_history_text.proofs.Texts.{one_history}
use Rattle.nd_history_ahead.proofs.Refusing.{memory_alone}
use Rattle.nd_history_ahead.proofs.reading.read_ahead.Goals as goal

pub returns-in-Whole-clause-exactly : goal.returns-in-Whole-clause-exactly
returns-in-Whole-clause-exactly c = λ entries is. one_history c.args.text.now c.in-Whole.entries.items entries c.in-Whole.ensures is

pub returns-in-Refused-clause-exactly : goal.returns-in-Refused-clause-exactly
returns-in-Refused-clause-exactly c = memory_alone c.args.text.now c.in-Refused.fault c.in-Refused.ensures
