use Rattle.std.proofs.Common.{arith, length}
use Rattle.nd_receipts.proofs.Standings.{stand_more, stand_last}
use Rattle.nd_receipts.proofs.standing.stand_behind.Goals as goal

pub following-preserved : goal.following-preserved
following-preserved c =
    stand_more c.args.old.now (length c.args.standing.leased.items) c.following.entry-index c.entry-item.result c.following.standing.leased.items c.follow.new.self.leased.items c.following.standing.started.items c.follow.new.self.started.items
    c.requires.within c.following.invariant (omega arith) c.entry-item.is c.follow.ensures.leased c.follow.ensures.started

pub returns : goal.returns
returns c = stand_last c.args.old.now (length c.args.standing.leased.items) c.following.entry-index c.following.standing c.following.invariant (omega arith)
