use Rattle.std.proofs.Common.{ℕ, List, length, get_or, reverse, ap, ◌∙◌}
use Rattle.nd_history.specs.Books.{Recorded}
use Rattle.nd_history.specs.History.{load}
use Rattle.nd_history.proofs.book.Book.loads.Goals as goal

pub returns-clause-sized : goal.returns-clause-sized
returns-clause-sized c = ap length c.loads.ensures ∙ c.self.invariant.park ∙ ap (λ (b : Recorded). b.machines) c.self.view_is

pub returns-clause-each : goal.returns-clause-each
returns-clause-each c = λ m.
    ap (λ (l : List ℕ). get_or l m 0) c.loads.ensures ∙ c.self.invariant.leases.loads m ∙ ap (λ (b : Recorded). load m (reverse b.entries)) c.self.view_is
