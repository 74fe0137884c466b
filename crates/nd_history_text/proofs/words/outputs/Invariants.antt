use Rattle.std.specs.Option.{option_copied}
use Rattle.nd_bytes.specs.Cut.{pieces, left_over}
use Rattle.nd_history_text.proofs.PathLists.{IsReadingOutputs}
use Rattle.nd_history_text.proofs.words.outputs.Given as goal

abbrev pub invariant-loop-rest : goal.invariant-loop-rest
invariant-loop-rest l = IsReadingOutputs (pieces 32 (option_copied l.fn.left)) l.reading.sets.items (pieces 32 (option_copied l.rest))

abbrev pub decreases-loop-rest : goal.decreases-loop-rest
decreases-loop-rest l = left_over (option_copied l.rest)
