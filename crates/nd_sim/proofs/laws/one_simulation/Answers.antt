use Rattle.nd_sim.proofs.OneRun.{one_simulation}
use Rattle.nd_sim.proofs.laws.one_simulation.Goals as goal

pub returns : goal.returns
returns c = one_simulation
