use Rattle.nd_devices.proofs.Sent.{put_both, put_refused}
use Rattle.nd_report.proofs.report_writing.put_park.Goals as goal

pub returns-in_err-put_counts : goal.returns-in_err-put_counts
returns-in_err-put_counts g c = put_refused _ _ _ _ _ _ _ _ _ c.from_residual.ensures.0 c.in_err-put_counts.ensures

pub returns : goal.returns
returns g c = put_both _ _ _ _ _ _ _ _ _ _ _ c.in_ok-put_counts.ensures c.put_machines.ensures
