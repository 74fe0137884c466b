use Rattle.nd_history_text.proofs.Spelled.{word_put, word_refused}
use Rattle.nd_history_text.proofs.rows.put_word.Goals as goal

pub returns-in_err-put : goal.returns-in_err-put
returns-in_err-put g c = word_refused _ _ _ _ _ _ _ _ c.from_residual.ensures.0 c.in_err-put.ensures

pub returns : goal.returns
returns g c = word_put _ _ _ _ _ _ _ _ _ _ c.in_ok-put.ensures c.put_text.ensures
