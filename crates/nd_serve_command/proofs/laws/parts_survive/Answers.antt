use Rattle.nd_serve_command.proofs.Survived.{parts_survive}
use Rattle.nd_serve_command.proofs.laws.parts_survive.Goals as goal

pub returns : goal.returns
returns c = parts_survive
