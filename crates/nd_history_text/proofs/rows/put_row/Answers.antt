use Rattle.nd_history_text.proofs.Spelled.{row_put, row_refused}
use Rattle.nd_history_text.proofs.rows.put_row.Goals as goal

pub returns-in_err-put_line : goal.returns-in_err-put_line
returns-in_err-put_line g c = row_refused _ _ _ _ _ _ _ _ _ c.from_residual.ensures.0 c.in_err-put_line.ensures

pub returns : goal.returns
returns g c = row_put _ _ _ _ _ _ _ _ _ _ _ c.in_ok-put_line.ensures c.put.ensures
