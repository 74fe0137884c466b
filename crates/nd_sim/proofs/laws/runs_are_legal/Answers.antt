use Rattle.nd_sim.proofs.OneRun.{runs_are_legal}
use Rattle.nd_sim.proofs.laws.runs_are_legal.Goals as goal

pub returns : goal.returns
returns c = runs_are_legal
