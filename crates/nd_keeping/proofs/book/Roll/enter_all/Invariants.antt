use Rattle.std.proofs.Common.{◌≡◌, ◌++◌, take}
use Rattle.nd_keeping.proofs.book.Roll.enter_all.Given as goal

-- those so far are entered
abbrev pub invariant-loop-entry : goal.invariant-loop-entry
invariant-loop-entry l = record {
  book : l.front.book ≡ l.self-inside.front.book;
  entered : l.front.entries ≡ l.self-inside.front.entries ++ take l.entry-index l.entries;
}
