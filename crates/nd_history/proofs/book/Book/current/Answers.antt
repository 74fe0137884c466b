use Rattle.std.proofs.Common.{reverse, ap, ◌∙◌}
use Rattle.nd_history.specs.Books.{Recorded}
use Rattle.nd_history.specs.History.{current_of}
use Rattle.nd_history.proofs.book.Book.current.Goals as goal

pub returns : goal.returns
returns c = c.current.ensures _ c.self.invariant.leases ∙ ap (λ (b : Recorded). current_of c.args.machine c.args.slot (reverse b.entries)) c.self.view_is
