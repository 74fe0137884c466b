use Rattle.nd_choose.proofs.OneChoice as one
use Rattle.nd_choose.proofs.laws.same_choice.Goals as goal

pub returns : goal.returns
returns c = one.same_choice
