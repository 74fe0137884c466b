use Rattle.nd_devices.proofs.Sent.{put_both, put_refused}
use Rattle.nd_hook.specs.ReplyText.{line}
use Rattle.nd_cli.proofs.asks.put_line.Goals as goal

pub returns-in_err-put : goal.returns-in_err-put
returns-in_err-put g c = unfold line in put_refused _ _ _ _ _ _ _ _ _ c.from_residual.ensures.0 c.in_err-put.ensures

pub returns : goal.returns
returns g c = unfold line in put_both _ _ _ _ _ _ _ _ _ _ _ c.in_ok-put.ensures c.put-2.ensures
