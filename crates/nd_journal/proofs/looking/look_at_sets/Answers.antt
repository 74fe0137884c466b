use Rattle.nd_history_text.specs.Sound.{IsPathSet}
use Rattle.nd_journal.proofs.Looked.{one_more}
use Rattle.nd_journal.proofs.looking.look_at_sets.Goals as goal

pub loop-set-preserved : goal.loop-set-preserved
loop-set-preserved c =
    one_more IsPathSet c.args.sets.now c.loop-set.set-index c.set-item.result c.loop-set-test.true c.set-item.is c.loop-set.invariant c.look_at_set.ensures
