use Rattle.nd_serve_command.proofs.Survived.{sessions_survive}
use Rattle.nd_serve_command.proofs.laws.sessions_survive.Goals as goal

pub returns : goal.returns
returns c = sessions_survive
