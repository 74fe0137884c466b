use Rattle.std.proofs.Common.{get_or}
use Rattle.nd_choose.proofs.Choosing.{looked, among_goes_on}
use Rattle.nd_choose.proofs.choice.choose_in.Goals as goal

-- one more place was looked at
pub loop-place-preserved : goal.loop-place-preserved
loop-place-preserved c =
    looked c.args.machines.now c.args.loads.now c.args.up.now _ _ (get_or c.args.among.now c.loop-place.place-index 0)
    (among_goes_on c.args.among.now c.loop-place.place-index c.loop-place-test.true c.requires.rising)
    _ _ c.loop-place.invariant c.better_at-best.ensures
