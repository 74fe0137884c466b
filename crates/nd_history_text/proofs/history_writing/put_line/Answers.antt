use Rattle.nd_history_text.proofs.Spelled.{line_put, line_refused}
use Rattle.nd_history_text.proofs.history_writing.put_line.Goals as goal

pub returns-in_err-put_entry : goal.returns-in_err-put_entry
returns-in_err-put_entry g c = line_refused _ _ _ _ _ _ _ _ c.from_residual.ensures.0 c.in_err-put_entry.ensures

pub returns : goal.returns
returns g c = line_put _ _ _ _ _ _ _ _ _ _ c.in_ok-put_entry.ensures c.put.ensures
