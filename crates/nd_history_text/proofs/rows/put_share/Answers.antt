use Rattle.nd_history_text.proofs.Spelled.{share_put, slash_refused, taken_refused}
use Rattle.nd_history_text.proofs.rows.put_share.Goals as goal

pub returns-in_err-put_number : goal.returns-in_err-put_number
returns-in_err-put_number g c = taken_refused _ _ _ _ _ _ _ _ _ c.from_residual.ensures.0 c.in_err-put_number.ensures

pub returns-in_err-put : goal.returns-in_err-put
returns-in_err-put g c = slash_refused _ _ _ _ _ _ _ _ _ _ _ _ c.from_residual-in_err-put.ensures.0 c.in_ok-put_number.ensures c.in_err-put.ensures

pub returns : goal.returns
returns g c = share_put _ _ _ _ _ _ _ _ _ _ _ _ _ _ c.in_ok-put_number.ensures c.in_ok-put.ensures c.put_number-2.ensures
