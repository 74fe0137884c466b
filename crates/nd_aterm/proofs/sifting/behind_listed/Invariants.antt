use Rattle.std.proofs.Common.{length}
use Rattle.nd_aterm.specs.Spelling.{string}
use Rattle.nd_aterm.specs.Sifting.{BeginsListed}
use Rattle.nd_aterm.proofs.sifting.behind_listed.Given as goal

-- some strings, and the rest, are the bytes
abbrev pub invariant-loop-after : goal.invariant-loop-after
invariant-loop-after l = BeginsListed string l.bytes l.rest

abbrev pub decreases-loop-after : goal.decreases-loop-after
decreases-loop-after l = length l.rest
