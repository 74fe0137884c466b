use Rattle.std.proofs.Common.{◌≡◌, ◌+◌, ◌≤◌, length, take, vec_len, vec_capacity}
use Rattle.nd_history.proofs.book.copy_entries.Given as goal

abbrev pub invariant-loop-entry : goal.invariant-loop-entry
invariant-loop-entry l = (l.copy.items ≡ take l.entry-index l.entries) × (vec_len l.copy ≡ l.entry-index) × (length l.entries + l.more ≤ vec_capacity l.copy)
