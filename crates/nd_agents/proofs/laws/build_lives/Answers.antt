use Rattle.nd_agents.proofs.Lives.{build_lives}
use Rattle.nd_agents.proofs.laws.build_lives.Goals as goal

pub returns : goal.returns
returns g c = build_lives g.R.Read.remaining g.W.Write.contents
