use Rattle.std.proofs.Common.{reverse}
use Rattle.nd_devices.proofs.Sent.{put_renamed}
use Rattle.nd_report.proofs.Rows.{machine_rowed}
use Rattle.nd_report.proofs.report_writing.put_machine.Goals as goal

pub returns : goal.returns
returns g c =
    put_renamed _ _ _ _ _ _ _ _ (machine_rowed c.args.dispatch.now.inputs (reverse c.args.dispatch.now.history) c.args.number _ _ _ _ _ c.word_of_up.ensures c.up.ensures c.taken.ensures c.requires.jobs) c.put_row.ensures
