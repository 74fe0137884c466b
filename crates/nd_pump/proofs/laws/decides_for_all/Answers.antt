use Rattle.nd_pump.proofs.Waiting.{decides_for_all}
use Rattle.nd_pump.proofs.laws.decides_for_all.Goals as goal

pub returns : goal.returns
returns c = decides_for_all
