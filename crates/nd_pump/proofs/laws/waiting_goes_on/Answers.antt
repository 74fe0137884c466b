use Rattle.nd_pump.proofs.Waiting.{waiting_goes_on}
use Rattle.nd_pump.proofs.laws.waiting_goes_on.Goals as goal

pub returns : goal.returns
returns c = waiting_goes_on
