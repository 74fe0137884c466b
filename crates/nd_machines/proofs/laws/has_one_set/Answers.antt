use Rattle.nd_machines.proofs.Sets.{has_one_set}
use Rattle.nd_machines.proofs.laws.has_one_set.Goals as goal

pub returns : goal.returns
returns c = has_one_set
