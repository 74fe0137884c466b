use Rattle.std.specs.List.{AllWithin}
use Rattle.nd_history_text.specs.Sound.{IsPathSet}
use Rattle.nd_journal.proofs.looking.look_at_sets.Given as goal

-- those so far were looked at
abbrev pub invariant-loop-set : goal.invariant-loop-set
invariant-loop-set l = AllWithin IsPathSet l.sets 0 l.set-index
