use Rattle.std.specs.Prelude.{length}
use Rattle.nd_history_ahead.specs.Ahead.{GoesOn}
use Rattle.nd_history_ahead.proofs.reading.read_on.Given as goal

abbrev pub invariant-loop-rest : goal.invariant-loop-rest
invariant-loop-rest l = GoesOn l.initial.first l.initial.lines l.initial.entries.items l.rest l.entries.items

abbrev pub decreases-loop-rest : goal.decreases-loop-rest
decreases-loop-rest l = length l.rest
