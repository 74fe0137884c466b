use Rattle.nd_report.proofs.Rows.{builder_put}
use Rattle.nd_devices.proofs.Sent.{put_renamed}
use Rattle.std.proofs.Common.{◌+◌, reverse, ap}
use Rattle.nd_report.specs.Reports.{machine_row}
use Rattle.nd_report.proofs.report_writing.put_builder.Goals as goal

pub returns : goal.returns
returns g c =
    builder_put _ _ _ c.args.place c.args.machine.now _ _ _ _ _ c.requires.listed c.requires.found
    (put_renamed _ _ _ _ _ _ _ _ (ap (machine_row c.args.dispatch.now.inputs (reverse c.args.dispatch.now.history) (c.args.place + 1)) c.uri.ensures)
    c.put_machine.ensures)
