use Rattle.std.proofs.Common.{◌≡◌, [], slice_index_or}
use Rattle.nd_devices.proofs.Sent.{put_renamed}
use Rattle.nd_report.proofs.Rows.{drv_rowed}
use Rattle.nd_report.proofs.report_writing.put_drv.Goals as goal

pub returns : goal.returns
returns g c =
    let path : c.bytes.result.now ≡ slice_index_or c.args.dispatch.now.inputs.graph.paths c.args.drv [] = cc (c.bytes.ensures.value, c.path.ensures, c.graph.ensures) in
    put_renamed _ _ _ _ _ _ _ _ (drv_rowed _ _ _ _ _ c.word_of_status.ensures path) c.put_row.ensures
