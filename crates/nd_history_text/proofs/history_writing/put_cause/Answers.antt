use Rattle.nd_history_text.proofs.history_writing.put_cause.Goals as goal

pub returns-in-BadReferences : goal.returns-in-BadReferences
returns-in-BadReferences g c = rw c.in-BadReferences.is c.put_word-in-BadReferences.ensures
