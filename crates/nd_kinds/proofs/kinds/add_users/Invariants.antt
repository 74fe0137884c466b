use Rattle.nd_kinds.specs.Sharing.{AddsTo}
use Rattle.nd_kinds.proofs.KindFacts.{AreListedTo}
use Rattle.nd_kinds.proofs.kinds.add_users.Given as goal

-- the number stands with the machines so far
abbrev pub invariant-loop-place : goal.invariant-loop-place
invariant-loop-place l = AddsTo l.number l.fn.users l.users × AreListedTo l.kind l.number l.place-index l.users
