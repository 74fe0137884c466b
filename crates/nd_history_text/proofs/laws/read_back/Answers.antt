use Rattle.nd_history_text.proofs.Written.{reads_back}
use Rattle.nd_history_text.proofs.laws.read_back.Goals as goal

pub returns : goal.returns
returns c = reads_back
