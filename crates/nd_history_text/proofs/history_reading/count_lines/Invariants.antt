-- What is left gets shorter.
use Rattle.std.specs.Option.{option_copied}
use Rattle.nd_bytes.specs.Cut.{left_over}
use Rattle.nd_history_text.proofs.history_reading.count_lines.Given as goal

abbrev pub decreases-loop-left : goal.decreases-loop-left
decreases-loop-left l = left_over (option_copied l.left)
