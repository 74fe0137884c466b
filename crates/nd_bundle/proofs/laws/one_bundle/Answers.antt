use Rattle.nd_bundle.proofs.OneBundle.{one_bundle}
use Rattle.nd_bundle.proofs.laws.one_bundle.Goals as goal

pub returns : goal.returns
returns c = one_bundle
