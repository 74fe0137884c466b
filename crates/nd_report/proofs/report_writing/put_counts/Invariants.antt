use Rattle.std.proofs.Common.{ℕ, List, Bor, take, Ok}
use Rattle.std.specs.List.{flat_map}
use Rattle.nd_devices.specs.declared.refusals.Fault.{Fault}
use Rattle.nd_report.specs.Reports.{count_row}
use Rattle.nd_devices.specs.Sending.{IsPut}
use Rattle.nd_report.proofs.report_writing.put_counts.Given as goal

-- the rows so far are put
abbrev pub invariant-loop-name : goal.invariant-loop-name
invariant-loop-name g l =
    IsPut {E = Fault} g.W.Write.contents l.fn.out l.fn.page l.out l.page (flat_map (λ (r : Bor (List ℕ) × ℕ). count_row r.0.now r.1) (take l.name-index l.name-items)) (Ok (tt {0}))
