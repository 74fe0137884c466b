use Rattle.std.proofs.Common.{arith}
use Rattle.nd_flags.proofs.WordFacts.{lowest_within}
use Rattle.nd_flags.proofs.layers.Flat.first_in_block.Goals as goal

pub returns : goal.returns
returns c =
    lowest_within _ _ c.args.from c.index.result.now _ c.self.invariant c.self.view_is c.requires c.index.ensures (omega arith) c.if-rest-eq0.false
