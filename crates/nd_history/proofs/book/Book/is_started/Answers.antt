use Rattle.std.proofs.Common.{◌<◌, reverse, sym, ap, ◌∙◌, subst, arith}
use Rattle.nd_history.specs.Books.{Recorded}
use Rattle.nd_history.specs.History.{is_started}
use Rattle.nd_history.proofs.book.Book.is_started.Goals as goal

pub returns : goal.returns
returns c =
    let lt = subst (λ (b : Recorded). c.args.drv < b.drvs) (sym c.self.view_is) c.requires in
    c.is_started.ensures ∙ c.self.invariant.started.said c.args.drv (omega (arith, lt, c.self.invariant.marks)) ∙ ap (λ (b : Recorded). is_started c.args.drv (reverse b.entries)) c.self.view_is
