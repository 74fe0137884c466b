use Rattle.nd_aterm.proofs.PrefixLemmas.{none_is_prefix}
use Rattle.nd_aterm.proofs.laws.no_prefix.Goals as goal

pub returns : goal.returns
returns c = none_is_prefix
