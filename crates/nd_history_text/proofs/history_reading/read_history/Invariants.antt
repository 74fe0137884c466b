use Rattle.std.proofs.Common.{length}
use Rattle.nd_history_text.proofs.Texts.{IsReading}
use Rattle.nd_history_text.proofs.history_reading.read_history.Given as goal

abbrev pub invariant-loop-rest : goal.invariant-loop-rest
invariant-loop-rest l = IsReading l.text l.version l.entries.items l.rest l.line

abbrev pub decreases-loop-rest : goal.decreases-loop-rest
decreases-loop-rest l = length l.rest
