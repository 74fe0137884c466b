use Rattle.std.proofs.Common.{◌<◌, reverse, sym, subst, arith}
use Rattle.nd_history.specs.Books.{Recorded}
use Rattle.nd_history.specs.Legal.{IsLeastFree}
use Rattle.nd_history.proofs.Following.{least_slot}
use Rattle.nd_history.proofs.book.Book.least_free.Goals as goal

pub least_free-requires : goal.least_free-requires
least_free-requires c = let lt = subst (λ (b : Recorded). c.args.machine < b.machines) (sym c.self.view_is) c.requires in omega (arith, lt, c.self.invariant.park)

pub returns : goal.returns
returns c =
    subst (λ (b : Recorded). IsLeastFree (reverse b.entries) c.args.machine c.least_free.result) c.self.view_is
    (least_slot (reverse c.self.inside.entries.items) c.args.machine c.least_free.result (c.least_free.ensures _ c.self.invariant.leases))
