use Rattle.std.proofs.Common.{◌-◌, ◌≤◌, length}
use Rattle.nd_aterm.specs.PlainBytes.{ArePlainTo}
use Rattle.nd_aterm.proofs.plain.plain_length_of_few.Given as goal

-- none of the bytes that were passed has an escape
abbrev pub invariant-loop-place : goal.invariant-loop-place
invariant-loop-place l = record {
  within : l.place ≤ length l.bytes;
  plain : ArePlainTo l.bytes l.place;
}

abbrev pub decreases-loop-place : goal.decreases-loop-place
decreases-loop-place l = length l.bytes - l.place
