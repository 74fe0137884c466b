use Rattle.std.specs.Option.{option_copied}
use Rattle.nd_bytes.specs.Cut.{pieces, left_over}
use Rattle.nd_script.proofs.Lists.{IsGathering}
use Rattle.nd_script.proofs.words.path_set.Given as goal

abbrev pub invariant-loop-left : goal.invariant-loop-left
invariant-loop-left l = IsGathering (pieces 32 (option_copied l.words)) l.paths.items (pieces 32 (option_copied l.left))

abbrev pub decreases-loop-left : goal.decreases-loop-left
decreases-loop-left l = left_over (option_copied l.left)
