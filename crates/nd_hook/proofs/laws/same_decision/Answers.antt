use Rattle.nd_hook.proofs.OneReply as one
use Rattle.nd_hook.proofs.laws.same_decision.Goals as goal

pub returns : goal.returns
returns c = one.same_decision
