use Rattle.std.proofs.Common.{◌≡◌, ◌++◌}
use Rattle.std.specs.Vec.Iter.{into_iter_items}
use Rattle.nd_report.proofs.Admissions.{HasAdmitted}
use Rattle.nd_report.proofs.auditing.admit_all.Given as goal

-- the entries so far were admitted
abbrev pub invariant-admitting : goal.invariant-admitting
invariant-admitting l = record {
  admitted : HasAdmitted l.fn.dispatch l.yielded l.dispatch l.index;
  whole : l.fn.entries.items ≡ l.yielded ++ into_iter_items l.entry-iterator;
}
