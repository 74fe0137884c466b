use Rattle.std.specs.List.{AllWithin}
use Rattle.nd_history_text.specs.Sound.{IsSound}
use Rattle.nd_journal.proofs.looking.look_at.Given as goal

-- those so far were looked at
abbrev pub invariant-loop-entry : goal.invariant-loop-entry
invariant-loop-entry l = AllWithin IsSound l.entries 0 l.entry-index
