use Rattle.nd_closure.proofs.Texts.{none_left}
use Rattle.nd_history_text.proofs.Texts.{text_begun_at, text_more, text_read, bad_alone, one_history}
use Rattle.nd_history_text.proofs.history_reading.read_history.Goals as goal

pub loop-rest-preserved : goal.loop-rest-preserved
loop-rest-preserved c = rw c.in_ok-push-in-Ok.ensures.items (text_more _ _ _ _ _ _ _ c.loop-rest.invariant c.in-Ok.ensures.found c.in-Ok.ensures.shorter)

pub returns-clause-found : goal.returns-clause-found
returns-clause-found c = text_read _ _ _ _ _ c.loop-rest.invariant (none_left c.loop-rest.rest.now c.loop-rest-test.ensures)

pub returns-clause-exactly : goal.returns-clause-exactly
returns-clause-exactly c = λ entries h. one_history _ _ _ (returns-clause-found c) h

pub loop-rest-init : goal.loop-rest-init
loop-rest-init c = text_begun_at _ _ _ _ c.in_ok-entries.ensures.items c.in-Some.ensures

pub returns-in-Err-Bad-clause-exactly : goal.returns-in-Err-Bad-clause-exactly
returns-in-Err-Bad-clause-exactly c = bad_alone _ _ _ _ _ c.loop-rest.invariant c.loop-rest-test.ensures (rw c.in-Err-Bad.field-0-is at c.in-Err-Bad.ensures.refused)
