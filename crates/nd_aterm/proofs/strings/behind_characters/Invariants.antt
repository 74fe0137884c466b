use Rattle.std.proofs.Common.{◌≤◌, length}
use Rattle.nd_aterm.specs.Spelling.{characters}
use Rattle.nd_aterm.specs.Sifting.{Begins}
use Rattle.nd_aterm.proofs.strings.behind_characters.Given as goal

-- some characters, and the rest, are the bytes
abbrev pub invariant-loop-after : goal.invariant-loop-after
invariant-loop-after l = record {
  begins : Begins characters l.bytes l.rest;
  shorter : length l.rest ≤ length l.bytes;
}

abbrev pub decreases-loop-after : goal.decreases-loop-after
decreases-loop-after l = length l.rest
