use Rattle.std.proofs.Common.{rules}
use Rattle.nd_workers.specs.Runs.{IsMachineManned}
use Rattle.nd_workers.proofs.Zips.{each_below}
use Rattle.nd_workers.proofs.manning.are_manned.Goals as goal

pub loop-machine-preserved : goal.loop-machine-preserved
loop-machine-preserved c = each_below (λ m. IsMachineManned c.args.dispatch.now.inputs c.args.places.now m) c.loop-machine.machine c.loop-machine.invariant (search rules)
