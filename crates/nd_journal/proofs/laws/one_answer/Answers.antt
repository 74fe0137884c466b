use Rattle.nd_journal.proofs.OneAnswer.{one_answer}
use Rattle.nd_journal.proofs.laws.one_answer.Goals as goal

pub returns : goal.returns
returns c = one_answer
