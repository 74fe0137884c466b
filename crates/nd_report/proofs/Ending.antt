-- The exit status of a history, from the counts.
use Rattle.std.proofs.Common.{◌≡◌, ℕ, ◌<◌, ◌≤◌, List, arith}
use Rattle.std.specs.Prelude.{◌+◌, nat_lt, if◌then◌else◌}
use Rattle.std.proofs.lemmas.Bool.Decides.{nat_tests}
use Rattle.nd_failure.specs.declared.status.Counts.{Counts}
use Rattle.nd_history.specs.declared.entry.Entry.{Entry}
use Rattle.nd_history.specs.Premises.{Premises}
use Rattle.nd_history.specs.Statuses.{AreCountsIn, IsExitStatus}

-- the status for so many failed and cancelled derivations
abbrev status_for : ℕ → ℕ → ℕ
status_for failed cancelled = if nat_lt 0 (failed + cancelled) then 1 else 0

for_failed : (failed cancelled : ℕ) → 0 < failed → 1 ≡ status_for failed cancelled
for_failed failed cancelled some = grind (arith, nat_tests)

for_cancelled : (failed cancelled : ℕ) → 0 < cancelled → 1 ≡ status_for failed cancelled
for_cancelled failed cancelled some = grind (arith, nat_tests)

for_none : (failed cancelled : ℕ) → failed ≤ 0 → cancelled ≤ 0 → 0 ≡ status_for failed cancelled
for_none failed cancelled no_failed no_cancelled = grind (arith, nat_tests)

pub one_failed : (i : Premises) (past : List Entry) (counts : Counts) → AreCountsIn i past counts → 0 < counts.failed → IsExitStatus i past 1
one_failed i past counts counted some = record { counts = counts; counted = counted; is = for_failed counts.failed counts.cancelled some }

pub one_cancelled : (i : Premises) (past : List Entry) (counts : Counts) → AreCountsIn i past counts → 0 < counts.cancelled → IsExitStatus i past 1
one_cancelled i past counts counted some = record { counts = counts; counted = counted; is = for_cancelled counts.failed counts.cancelled some }

pub none_ended : (i : Premises) (past : List Entry) (counts : Counts) → AreCountsIn i past counts → counts.failed ≤ 0 → counts.cancelled ≤ 0 → IsExitStatus i past 0
none_ended i past counts counted no_failed no_cancelled = record { counts = counts; counted = counted; is = for_none counts.failed counts.cancelled no_failed no_cancelled }
