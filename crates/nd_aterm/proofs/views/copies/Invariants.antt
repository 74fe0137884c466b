use Rattle.std.proofs.Common.{◌≡◌, ◌++◌, drop, map}
use Rattle.nd_aterm.proofs.views.copies.Given as goal

-- what is copied so far goes on to all of it
abbrev pub invariant-loop-item : goal.invariant-loop-item
invariant-loop-item g l = l.copies.items ++ map g.T.Borrowed.owned (drop l.item-index l.items) ≡ map g.T.Borrowed.owned l.items
