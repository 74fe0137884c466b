use Rattle.std.proofs.Common.{rules}
use Rattle.nd_flags.proofs.WordFacts.{flags_of-zeros}
use Rattle.nd_flags.proofs.layers.FlatFlags.new.Goals as goal

pub returns : goal.returns
returns c = flags_of-zeros _ c.args.len (c.in_ok-vec.ensures.items_if_clones_equal (search rules))
