use Rattle.nd_line.proofs.Once.{one_reading}
use Rattle.nd_line.proofs.laws.one_reading.Goals as goal

pub returns : goal.returns
returns c = one_reading
