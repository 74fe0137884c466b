use Rattle.std.proofs.Common.{length, reverse, take, Ok}
use Rattle.std.specs.List.{flat_map, range_with_len}
use Rattle.nd_devices.specs.declared.refusals.Fault.{Fault}
use Rattle.nd_report.specs.Reports.{builder_row}
use Rattle.nd_devices.specs.Sending.{IsPut}
use Rattle.nd_report.proofs.report_writing.put_builders.Given as goal

-- the lines so far are put
abbrev pub invariant-loop-place : goal.invariant-loop-place
invariant-loop-place g l =
    IsPut {E = Fault} g.W.Write.contents l.fn.out l.fn.page l.out l.page
    (flat_map (builder_row l.dispatch.inputs (reverse l.dispatch.history)) (take l.place (range_with_len 0 (length l.dispatch.inputs.machines)))) (Ok (tt {0}))
