use Rattle.std.proofs.Common.{length, reverse, ap, ◌∙◌, arith}
use Rattle.std.proofs.lemmas.List.{length-reverse}
use Rattle.nd_history.specs.Books.{Recorded}
use Rattle.nd_history.specs.History.{live}
use Rattle.nd_history.proofs.Following.{live_short, entries_fit}
use Rattle.nd_history.proofs.book.Book.live_len.Goals as goal

pub returns-clause-live : goal.returns-clause-live
returns-clause-live c = c.len.ensures _ c.self.invariant.leases ∙ ap (λ (b : Recorded). length (live (reverse b.entries))) c.self.view_is

pub returns-clause-small : goal.returns-clause-small
returns-clause-small c =
    let count = c.len.ensures _ c.self.invariant.leases in
    let short = live_short (reverse c.self.inside.entries.items) in
    let same = length-reverse c.self.inside.entries.items in
    omega (arith, count, short, same, entries_fit c.self.inside)
