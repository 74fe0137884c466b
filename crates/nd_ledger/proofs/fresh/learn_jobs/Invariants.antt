use Rattle.std.proofs.Common.{ℕ, ◌<◌, ◌≤◌}
use Rattle.nd_choose.specs.Best.{jobs_at}
use Rattle.nd_ledger.proofs.fresh.learn_jobs.Given as goal

abbrev pub invariant-loop-machine : goal.invariant-loop-machine
invariant-loop-machine l = (p : ℕ) → p < l.machine-index → jobs_at l.machines p ≤ 65535
