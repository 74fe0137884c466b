use Rattle.nd_serve_command.proofs.RunsLeft.{runs_survive}
use Rattle.nd_serve_command.proofs.laws.runs_survive.Goals as goal

pub returns : goal.returns
returns c = runs_survive
