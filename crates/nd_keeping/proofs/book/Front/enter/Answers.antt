use Rattle.std.proofs.Common.{◌≡◌, ◌∙◌, sym, ap}
use Rattle.logbook.specs.Pages.{Named}
use Rattle.nd_keeping.specs.Listing.{Listed}
use Rattle.nd_keeping.specs.Counting.{counter_of}
use Rattle.nd_keeping.proofs.Entering.{enters}
use Rattle.nd_keeping.proofs.book.Front.enter.Goals as goal

-- the counter is that of the book, and the step keeps the book's rule
pub compare_exchange-found-requires : goal.compare_exchange-found-requires
compare_exchange-found-requires c =
    let counter : c.args.counter.now ≡ counter_of c.self.inside.seen.book = c.requires.counter ∙ ap (λ (l : Listed). counter_of l.book) (sym c.self.view_is) in
    let book : c.self.inside.seen.book ≡ c.args.counter.now.book = sym (ap (λ (w : Named). w.book) counter) in
    let offer = c.plain-offer.ensures in
    let pen = c.no_pen-pen.ensures in (
      ap (λ (w : Named). w.tracked) counter,
      book,
      pen.0 ∙ book,
      offer.0,
      rw (ap (λ (w : Named). w.key) counter, pen.1, offer.1, offer.3) (enters c.self.inside.seen.log c.args.entry.now c.self.inside.len (sym c.self.invariant)),
    )
