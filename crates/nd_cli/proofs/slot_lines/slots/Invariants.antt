use Rattle.std.proofs.Common.{◌≡◌, ◌≤◌, ◌+◌, ◌*◌, take, sum_by}
use Rattle.nd_cli.proofs.slot_lines.slots.Given as goal

abbrev pub invariant-loop-machine : goal.invariant-loop-machine
invariant-loop-machine l = (l.slots ≡ l.local.jobs + sum_by (λ b. b.jobs) (take l.machine-index l.machines)) × (l.slots ≤ 65535 * (l.machine-index + 1))
