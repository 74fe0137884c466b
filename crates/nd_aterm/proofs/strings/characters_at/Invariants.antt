use Rattle.std.proofs.Common.{◌≡◌, ◌≤◌, length}
use Rattle.nd_aterm.specs.Spelling.{characters}
use Rattle.nd_aterm.proofs.strings.characters_at.Given as goal

-- what is read so far, and the rest, are the bytes
abbrev pub invariant-loop-byte : goal.invariant-loop-byte
invariant-loop-byte l = record {
  spelled : l.bytes ≡ characters l.read.items l.rest;
  shorter : length l.rest ≤ length l.bytes;
}

abbrev pub decreases-loop-byte : goal.decreases-loop-byte
decreases-loop-byte l = length l.rest
