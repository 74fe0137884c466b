use Rattle.nd_history.proofs.IdleReplies.{first_reply_is_idle}
use Rattle.nd_history.proofs.laws.first_reply_is_idle.Goals as goal

pub returns : goal.returns
returns c = first_reply_is_idle
