use Rattle.nd_bundle.proofs.Parted.{goes_refused}
use Rattle.nd_bundle.proofs.reached.Reached.read_block.Goals as goal

pub returns-in-Some : goal.returns-in-Some
returns-in-Some g c = goes_refused c.args.manner c.args.block.now c.args.self.now c.in-Some.field-0 c.in-Some.is
