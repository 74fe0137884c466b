use Rattle.std.proofs.Common.{◌≡◌, count_by, rules}
use Rattle.nd_workers.specs.Runs.{is_at}
use Rattle.nd_workers.proofs.Zips.{each_below}
use Rattle.nd_workers.proofs.manning.is_machine_manned.Goals as goal

pub loop-slot-preserved : goal.loop-slot-preserved
loop-slot-preserved c = each_below (λ s. count_by (is_at c.args.machine s) c.args.places.now ≡ 1) c.loop-slot.slot c.loop-slot.invariant (search rules)
