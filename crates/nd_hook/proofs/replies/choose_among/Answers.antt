use Rattle.std.proofs.Common.{length}
use Rattle.nd_hook.proofs.FewPlaces.{few_within}
use Rattle.nd_hook.proofs.replies.choose_among.Goals as goal

-- the few are in range as those that they stand for are
pub choose_in-requires-clause-in_range : goal.choose_in-requires-clause-in_range
choose_in-requires-clause-in_range c =
    few_within c.args.machines.now c.args.loads.now c.args.up.now c.args.among.now c.args.few.now c.requires.few (length c.args.machines.now) c.requires.in_range
