use Rattle.nd_history_text.proofs.LineKinds.{choice_machine}
use Rattle.nd_history_text.proofs.history_reading.chosen.Goals as goal

pub returns-in_default-number_first-clause-refused : goal.returns-in_default-number_first-clause-refused
returns-in_default-number_first-clause-refused c = choice_machine _ _ _ c.in-Some.ensures c.in_default-number_first.ensures
