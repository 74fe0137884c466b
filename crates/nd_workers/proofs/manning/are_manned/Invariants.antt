use Rattle.std.proofs.Common.{ℕ, ◌<◌}
use Rattle.nd_workers.specs.Runs.{IsMachineManned}
use Rattle.nd_workers.proofs.manning.are_manned.Given as goal

abbrev pub invariant-loop-machine : goal.invariant-loop-machine
invariant-loop-machine l = (m : ℕ) → m < l.machine → IsMachineManned l.dispatch.inputs l.places m
