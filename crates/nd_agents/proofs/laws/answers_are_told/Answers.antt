use Rattle.nd_agents.proofs.Rightly.{answers_are_told}
use Rattle.nd_agents.proofs.laws.answers_are_told.Goals as goal

pub returns : goal.returns
returns g c = answers_are_told g.R.Read.remaining g.W.Write.contents
