use Rattle.nd_eligible.specs.Eligibility.{AreEligible}
use Rattle.nd_cli.proofs.Accepted.{places_in_range}
use Rattle.nd_cli.proofs.Replying.{idle_reply}
use Rattle.nd_cli.proofs.asks.make_reply.Goals as goal

pub reply_in-requires-clause-in_range : goal.reply_in-requires-clause-in_range
reply_in-requires-clause-in_range c =
    let eligible : AreEligible c.args.machines.now c.args.need.now c.as_slice.result.now = rw c.as_slice.ensures c.in_ok-places.ensures in
    places_in_range c.args.machines.now c.args.need.now c.as_slice.result.now eligible

pub returns : goal.returns
returns c =
    let eligible : AreEligible c.args.machines.now c.args.need.now c.as_slice.result.now = rw c.as_slice.ensures c.in_ok-places.ensures in
    idle_reply _ _ _ _ _ _ _ _ c.requires.loads c.requires.up eligible c.is_free_here-free_here.ensures c.reply_in.ensures
