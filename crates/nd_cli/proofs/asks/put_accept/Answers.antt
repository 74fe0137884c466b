use Rattle.nd_devices.proofs.Sent.{put_both, put_refused}
use Rattle.nd_cli.proofs.asks.put_accept.Goals as goal

pub returns-in_err-put_line : goal.returns-in_err-put_line
returns-in_err-put_line g c = put_refused _ _ _ _ _ _ _ _ _ c.from_residual.ensures.0 c.in_err-put_line.ensures

pub returns : goal.returns
returns g c = put_both _ _ _ _ _ _ _ _ _ _ _ c.in_ok-put_line.ensures c.put_line-2.ensures
