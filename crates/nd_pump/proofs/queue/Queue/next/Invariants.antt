use Rattle.std.proofs.Common.{◌≡◌, ◌-◌, ◌<◌, ◌≤◌, ℕ, length}
use Rattle.nd_flags.specs.Members.{IsMember}
use Rattle.nd_pump.specs.QueueKept.{queued, IsKept}
use Rattle.nd_pump.proofs.queue.Queue.next.Given as goal

abbrev pub invariant-loop-drv : goal.invariant-loop-drv
invariant-loop-drv l = record {
  kept : IsKept l.self-inside;
  same : queued l.self-inside ≡ l.fn.self;
  searched : (k : ℕ) → k < l.from → IsMember l.self-inside.heads k → ⊥;
  within : l.from ≤ length l.self-inside.heads;
}

abbrev pub decreases-loop-drv : goal.decreases-loop-drv
decreases-loop-drv l = length l.self-inside.heads - l.from
