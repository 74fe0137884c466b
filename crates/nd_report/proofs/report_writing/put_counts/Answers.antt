use Rattle.std.proofs.Common.{◌≤◌, ℕ, List, Bor, refl, arith}
use Rattle.nd_report.specs.Reports.{count_row}
use Rattle.nd_devices.proofs.Sent.{no_text, put_renamed, place_put, place_refused, items_put}
use Rattle.nd_report.proofs.Rows.{counts_rowed}
use Rattle.nd_report.proofs.report_writing.put_counts.Goals as goal

pub loop-name-init : goal.loop-name-init
loop-name-init g c = no_text _ _ _ _ _ refl

pub loop-name-preserved : goal.loop-name-preserved
loop-name-preserved g c =
    place_put _ (λ (r : Bor (List ℕ) × ℕ). count_row r.0.now r.1) _ _ _ _ _ _ _ c.loop-name.name-index _ _ _ c.loop-name-test.true c.loop-name.invariant
    c.in_ok-put_row.ensures

pub returns-in_err-put_row : goal.returns-in_err-put_row
returns-in_err-put_row g c =
    let sent =
    place_refused _ (λ (r : Bor (List ℕ) × ℕ). count_row r.0.now r.1) _ _ _ _ _ _ _ c.loop-name.name-index _ _ _ c.from_residual.result c.loop-name-test.true
    c.from_residual.ensures.0 c.loop-name.invariant c.in_err-put_row.ensures in
    put_renamed _ _ _ _ _ _ _ _ (counts_rowed c.args.total c.args.counts.now) sent

pub returns : goal.returns
returns g c =
    let past : 6 ≤ c.loop-name.name-index = omega arith in
    let sent = items_put _ (λ (r : Bor (List ℕ) × ℕ). count_row r.0.now r.1) _ _ _ _ _ c.loop-name.name-index _ past c.loop-name.invariant in
    put_renamed _ _ _ _ _ _ _ _ (counts_rowed c.args.total c.args.counts.now) sent
