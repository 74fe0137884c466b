use Rattle.std.proofs.Common.{◌≡◌, ◌+◌, ◌-◌, ◌≤◌, length, vec_len, vec_capacity}
use Rattle.nd_failure.specs.Spread.{Spreading, size_of}
use Rattle.nd_failure.proofs.spread.spread.Given as goal

abbrev pub invariant-loop-node : goal.invariant-loop-node
invariant-loop-node l = record {
  spreading : Spreading l.edges l.root l.fn.doomed l.doomed l.work.items;
  counted : l.found + size_of l.fn.doomed ≡ size_of l.doomed;
  room : vec_len l.work + length l.edges ≤ vec_capacity l.work + size_of l.doomed;
  capacity : vec_capacity l.work ≡ vec_capacity l.fn.work;
}

abbrev pub decreases-loop-node : goal.decreases-loop-node
decreases-loop-node l = vec_len l.work + (length l.edges - size_of l.doomed)
