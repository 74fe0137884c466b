use Rattle.std.proofs.Common.{◌≡◌, ◌<◌, ◌≤◌, length, reverse, ap, arith}
use Rattle.nd_report.specs.Reports.{builder_row}
use Rattle.nd_report.proofs.Rows.{row_put, row_refused, rows_put}
use Rattle.nd_report.proofs.report_writing.put_builders.Goals as goal

pub loop-place-preserved : goal.loop-place-preserved
loop-place-preserved g c =
    let size : length c.machines-machine-items.result.now ≡ length c.args.dispatch.now.inputs.machines = ap length c.machines-machine-items.ensures.value in
    let within : c.loop-place.place < length c.args.dispatch.now.inputs.machines = omega (arith, size) in
    row_put _ (builder_row c.args.dispatch.now.inputs (reverse c.args.dispatch.now.history)) _ _ _ _ _ _ (length c.args.dispatch.now.inputs.machines) c.loop-place.place _ _
    within c.loop-place.invariant c.in_ok-put_builder.ensures

pub returns-in_err-put_builder : goal.returns-in_err-put_builder
returns-in_err-put_builder g c =
    let size : length c.machines-machine-items.result.now ≡ length c.args.dispatch.now.inputs.machines = ap length c.machines-machine-items.ensures.value in
    let within : c.loop-place.place < length c.args.dispatch.now.inputs.machines = omega (arith, size) in
    row_refused _ (builder_row c.args.dispatch.now.inputs (reverse c.args.dispatch.now.history)) _ _ _ _ _ _ (length c.args.dispatch.now.inputs.machines) c.loop-place.place _ _ _
    within c.from_residual.ensures.0 c.loop-place.invariant c.in_err-put_builder.ensures

pub returns : goal.returns
returns g c =
    let size : length c.machines-machine-items.result.now ≡ length c.args.dispatch.now.inputs.machines = ap length c.machines-machine-items.ensures.value in
    let past : length c.args.dispatch.now.inputs.machines ≤ c.loop-place.place = omega (arith, size) in
    rows_put _ (builder_row c.args.dispatch.now.inputs (reverse c.args.dispatch.now.history)) _ _ _ _ (length c.args.dispatch.now.inputs.machines) c.loop-place.place _
    past c.loop-place.invariant
