use Rattle.nd_bundle.proofs.OneBundle.{never_both}
use Rattle.nd_bundle.proofs.laws.never_both.Goals as goal

pub returns : goal.returns
returns c = never_both
