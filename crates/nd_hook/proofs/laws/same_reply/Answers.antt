use Rattle.nd_hook.proofs.OneReply as one
use Rattle.nd_hook.proofs.laws.same_reply.Goals as goal

pub returns : goal.returns
returns c = one.same_reply
