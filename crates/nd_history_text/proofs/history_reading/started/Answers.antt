use Rattle.nd_history_text.proofs.LineKinds.{start_end}
use Rattle.nd_history_text.proofs.history_reading.started.Goals as goal

pub returns-in-Some-rest-clause-refused : goal.returns-in-Some-rest-clause-refused
returns-in-Some-rest-clause-refused c =
    start_end _ _ _ c.in-Some-rest.field-0.now _ c.in-Some.ensures (rw c.in-Some-rest.is at c.in_ok-paths.ensures.found)
