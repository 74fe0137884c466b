use Rattle.std.proofs.Common.{ℕ, ◌<◌, Bool, false, List, length, get_or, reverse, ap, sym, subst, ◌∙◌}
use Rattle.nd_history.specs.Books.{Recorded}
use Rattle.nd_history.specs.History.{is_up}
use Rattle.nd_history.proofs.book.Book.ups.Goals as goal

pub returns-clause-sized : goal.returns-clause-sized
returns-clause-sized c = ap length c.as_slice.ensures.value ∙ ap (λ (b : Recorded). b.machines) c.self.view_is

pub returns-clause-each : goal.returns-clause-each
returns-clause-each c = λ m lt.
    ap (λ (l : List Bool). get_or l m false) c.as_slice.ensures.value
    ∙ c.self.invariant.ups.said m (subst (λ (n : ℕ). m < n) (sym (ap (λ (b : Recorded). b.machines) c.self.view_is)) lt)
    ∙ ap (λ (b : Recorded). is_up m (reverse b.entries)) c.self.view_is
