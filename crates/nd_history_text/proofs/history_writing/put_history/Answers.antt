use Rattle.nd_devices.proofs.Sent.{put_both, put_refused, put_renamed}
use Rattle.nd_history_text.proofs.history_writing.put_history.Goals as goal

pub returns-in_err-put : goal.returns-in_err-put
returns-in_err-put g c = put_refused _ _ _ _ _ _ _ _ _ c.from_residual.ensures.0 (put_renamed _ _ _ _ _ _ _ _ c.opening.ensures c.in_err-put.ensures)

pub returns : goal.returns
returns g c = put_both _ _ _ _ _ _ _ _ _ _ _ (put_renamed _ _ _ _ _ _ _ _ c.opening.ensures c.in_ok-put.ensures) c.put_lines.ensures
