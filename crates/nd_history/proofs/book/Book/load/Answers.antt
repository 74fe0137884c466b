use Rattle.std.proofs.Common.{reverse, ap, ◌∙◌}
use Rattle.nd_history.specs.Books.{Recorded}
use Rattle.nd_history.specs.History.{load}
use Rattle.nd_history.proofs.book.Book.load.Goals as goal

pub returns : goal.returns
returns c = c.load.ensures _ c.self.invariant.leases ∙ ap (λ (b : Recorded). load c.args.machine (reverse b.entries)) c.self.view_is
