use Rattle.std.proofs.Common.{reverse, ap, ◌∙◌}
use Rattle.nd_history.specs.Books.{Recorded}
use Rattle.nd_history.specs.History.{lease_of}
use Rattle.nd_history.proofs.book.Book.lease.Goals as goal

pub returns : goal.returns
returns c = c.lease.ensures _ c.self.invariant.leases ∙ ap (λ (b : Recorded). lease_of c.args.drv (reverse b.entries)) c.self.view_is
