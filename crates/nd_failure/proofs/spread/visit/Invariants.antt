use Rattle.std.proofs.Common.{◌≡◌, ◌+◌, take, vec_len, vec_capacity}
use Rattle.nd_failure.specs.Spread.{Visited, size_of}
use Rattle.nd_failure.proofs.spread.visit.Given as goal

abbrev pub invariant-loop-node : goal.invariant-loop-node
invariant-loop-node l = record {
  visited : Visited (take l.node-index l.nodes) l.initial.doomed l.doomed l.initial.work.items l.work.items;
  counted : l.found + size_of l.initial.doomed ≡ size_of l.doomed;
  len : vec_len l.work ≡ vec_len l.initial.work + l.found;
  capacity : vec_capacity l.work ≡ vec_capacity l.initial.work;
}
