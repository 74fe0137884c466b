use Rattle.nd_sim.proofs.OneAnswer.{one_outcome}
use Rattle.nd_sim.proofs.laws.one_outcome.Goals as goal

pub returns : goal.returns
returns c = one_outcome
