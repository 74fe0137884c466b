use Rattle.std.proofs.Common.{◌≤◌}
use Rattle.std.specs.Option.{option_copied}
use Rattle.nd_bytes.specs.Cut.{pieces, left_over}
use Rattle.nd_history_text.proofs.PathLists.{IsReadingPaths}
use Rattle.nd_history_text.proofs.words.path_words.Given as goal

abbrev pub invariant-loop-word : goal.invariant-loop-word
invariant-loop-word l = record {
  read : IsReadingPaths (pieces 32 (option_copied l.fn.left)) l.paths.items (pieces 32 (option_copied l.rest));
  shorter : left_over (option_copied l.rest) ≤ left_over (option_copied l.fn.left);
}

abbrev pub decreases-loop-word : goal.decreases-loop-word
decreases-loop-word l = left_over (option_copied l.rest)
