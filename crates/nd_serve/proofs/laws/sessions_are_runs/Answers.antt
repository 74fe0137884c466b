use Rattle.nd_serve.proofs.SessionRuns.{sessions_are_runs}
use Rattle.nd_serve.proofs.laws.sessions_are_runs.Goals as goal

pub returns : goal.returns
returns c = sessions_are_runs
