use Rattle.nd_bundle.proofs.OneBundle.{one_graph}
use Rattle.nd_bundle.proofs.laws.one_graph.Goals as goal

pub returns : goal.returns
returns c = one_graph
