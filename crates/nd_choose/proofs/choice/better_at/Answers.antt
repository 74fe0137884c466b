use Rattle.std.proofs.Common.{refl}
use Rattle.nd_choose.proofs.Choosing.{passed_over}
use Rattle.nd_choose.proofs.choice.better_at.Goals as goal

-- the best stays, whether the machine is free or not
pub returns-then-is_no_better : goal.returns-then-is_no_better
returns-then-is_no_better c =
    rw c.in-Some.is (passed_over c.args.machines.now c.args.loads.now c.args.up.now c.args.place c.in-Some.known (c.if-is_no_better.ensures refl))
