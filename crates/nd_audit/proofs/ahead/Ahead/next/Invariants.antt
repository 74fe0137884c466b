use Rattle.std.proofs.Common.{◌≡◌, ◌++◌, length}
use Rattle.std.specs.Vec.Iter.{into_iter_items}
use Rattle.nd_history.specs.Premises.{premises_of}
use Rattle.nd_audit.specs.Ahead.{IsSizedFor, HaveCleared}
use Rattle.nd_audit.proofs.ahead.Ahead.next.Given as goal

-- the entries so far were gone through
abbrev pub invariant-going : goal.invariant-going
invariant-going l = record {
  sized : IsSizedFor (premises_of l.inputs) l.self;
  cleared : HaveCleared (premises_of l.inputs) l.fn.self l.self l.entries.items;
  counted : length l.entries.items ≡ l.counter;
  whole : into_iter_items l.fn.left ≡ l.entries.items ++ into_iter_items l.left;
}
