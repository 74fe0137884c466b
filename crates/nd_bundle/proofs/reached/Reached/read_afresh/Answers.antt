use Rattle.std.proofs.lemmas.Result.{on_ok_weaker}
use Rattle.nd_bundle.proofs.Parted.{goes_behind}
use Rattle.nd_bundle.proofs.reached.Reached.read_afresh.Goals as goal

pub returns : goal.returns
returns g c = on_ok_weaker c.read_behind.result (goes_behind c.args.manner c.args.block.now c.args.self.now c.read_behind.new.self c.requires.none c.requires.rest) c.read_behind.ensures
