use Rattle.std.proofs.Common.{◌≡◌, ◌≤◌, ◌<◌, length}
use Rattle.nd_aterm.specs.Spelling.{listed}
use Rattle.nd_aterm.proofs.lists.listed_at.Given as goal

-- what is read so far, and the rest, are the bytes
abbrev pub invariant-loop-after : goal.invariant-loop-after
invariant-loop-after g l = record {
  spelled : g.T.Part.text l.fn.first l.bytes ≡ listed g.T.Part.text l.items.items l.rest;
  some : 0 < length l.items.items;
  shorter : length l.rest ≤ length l.bytes;
}

abbrev pub decreases-loop-after : goal.decreases-loop-after
decreases-loop-after g l = length l.rest
