use Rattle.std.proofs.Common.{length}
use Rattle.nd_aterm.specs.Sifting.{BeginsEnv}
use Rattle.nd_aterm.proofs.sifting.listed_env.Given as goal

-- the variables so far, and the rest, are the bytes
abbrev pub invariant-loop-after : goal.invariant-loop-after
invariant-loop-after g l = BeginsEnv g.S.Selection.selects l.bytes l.rest l.sifted

abbrev pub decreases-loop-after : goal.decreases-loop-after
decreases-loop-after g l = length l.rest
