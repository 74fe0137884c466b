use Rattle.nd_flags.proofs.WordFacts.{put_keeps}
use Rattle.nd_flags.proofs.layers.FlatFlags.put.Goals as goal

pub invariant_of-self : goal.invariant_of-self
invariant_of-self c =
    put_keeps _ _ c.args.i c.index-word.result.now _ _ c.args.up c.self.invariant c.self.view_is c.requires c.index-word.ensures c.with_bit.ensures
