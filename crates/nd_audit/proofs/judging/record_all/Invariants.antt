use Rattle.std.proofs.Common.{◌≡◌, ◌++◌}
use Rattle.std.specs.Vec.Iter.{into_iter_items}
use Rattle.nd_audit.proofs.Judged.{HasRecorded}
use Rattle.nd_audit.proofs.judging.record_all.Given as goal

-- the entries so far were recorded
abbrev pub invariant-recording : goal.invariant-recording
invariant-recording l = record {
  recorded : HasRecorded l.fn.inputs l.fn.state l.state l.yielded (into_iter_items l.entry-iterator);
  whole : l.fn.entries.items ≡ l.yielded ++ into_iter_items l.entry-iterator;
}
