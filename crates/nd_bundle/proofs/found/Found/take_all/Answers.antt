use Rattle.std.proofs.lemmas.Result.{on_ok_weaker}
use Rattle.nd_bundle.proofs.Parted.{takes_reserved}
use Rattle.nd_bundle.proofs.found.Found.take_all.Goals as goal

pub returns : goal.returns
returns c = on_ok_weaker c.take_each.result (takes_reserved c.args.self.now c.take_each.new.self c.reserve.new.self c.args.pieces.items c.in_ok-reserve.ensures) c.take_each.ensures
