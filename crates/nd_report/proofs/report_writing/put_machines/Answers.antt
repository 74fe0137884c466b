use Rattle.nd_devices.proofs.Sent.{put_both, put_refused}
use Rattle.nd_report.proofs.report_writing.put_machines.Goals as goal

pub returns-in_err-put_machine : goal.returns-in_err-put_machine
returns-in_err-put_machine g c = put_refused _ _ _ _ _ _ _ _ _ c.from_residual.ensures.0 c.in_err-put_machine.ensures

pub returns : goal.returns
returns g c = put_both _ _ _ _ _ _ _ _ _ _ _ c.in_ok-put_machine.ensures c.put_builders.ensures
