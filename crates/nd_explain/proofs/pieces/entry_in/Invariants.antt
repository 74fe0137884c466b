use Rattle.std.specs.Prelude.{filter}
use Rattle.std.specs.Option.{option_copied}
use Rattle.nd_bytes.specs.Cut.{pieces, left_over}
use Rattle.nd_explain.specs.Pieces.{has_field, entries_in}
use Rattle.nd_explain.proofs.Numbers.{IsPassing}
use Rattle.nd_explain.proofs.pieces.entry_in.Given as goal

abbrev pub invariant-loop-left : goal.invariant-loop-left
invariant-loop-left l = IsPassing (entries_in l.line) (filter has_field (pieces 59 (option_copied l.left))) l.before l.others

abbrev pub decreases-loop-left : goal.decreases-loop-left
decreases-loop-left l = left_over (option_copied l.left)
