use Rattle.nd_sim.proofs.OneRun.{one_run}
use Rattle.nd_sim.proofs.laws.one_run.Goals as goal

pub returns : goal.returns
returns c = one_run
