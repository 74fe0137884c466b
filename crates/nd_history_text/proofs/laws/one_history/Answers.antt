use Rattle.nd_history_text.proofs.Texts.{one_history}
use Rattle.nd_history_text.proofs.laws.one_history.Goals as goal

pub returns : goal.returns
returns c = one_history
