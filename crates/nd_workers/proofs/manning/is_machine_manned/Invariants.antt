use Rattle.std.proofs.Common.{◌≡◌, ℕ, ◌<◌, count_by}
use Rattle.nd_workers.specs.Runs.{is_at}
use Rattle.nd_workers.proofs.manning.is_machine_manned.Given as goal

abbrev pub invariant-loop-slot : goal.invariant-loop-slot
invariant-loop-slot l = (s : ℕ) → s < l.slot → count_by (is_at l.machine s) l.places ≡ 1
