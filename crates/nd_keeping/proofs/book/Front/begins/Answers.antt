use Rattle.std.proofs.Common.{List, ap, subst}
use mathlib.Core.List.{IsPrefix}
use Rattle.nd_history.specs.declared.entry.Entry.{Entry}
use Rattle.nd_keeping.proofs.Beginnings.{front_begins}
use Rattle.nd_keeping.proofs.book.Front.begins.Goals as goal

-- a copy of the one learns what the other has seen, so both begin what it has seen then
pub returns : goal.returns
returns c =
    let both = c.learn.new.self.log in
    let this : IsPrefix c.self.inside.seen.log both = subst (λ (l : List Entry). IsPrefix l both) (ap (λ s. s.log) c.again-both.ensures) c.learn.ensures.2 in
    rw (← c.self.view_is, ← c.other.view_is)
    (front_begins both (record { book = c.self.inside.seen.book; entries = c.self.inside.seen.log })
    (record { book = c.other.inside.seen.book; entries = c.other.inside.seen.log }) c.self.inside.len c.other.inside.len c.self.invariant c.other.invariant this c.learn.ensures.3)
