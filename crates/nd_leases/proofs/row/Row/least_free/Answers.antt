use Rattle.std.proofs.Common.{◌≡◌, ℕ, ◌<◌, ◌≤◌, None, length, get_or, sym, ap, ◌∙◌, arith, subst}
use Rattle.nd_leases.proofs.RowFacts.{member_is_gap, gap_is_member}
use Rattle.nd_leases.proofs.row.Row.least_free.Goals as goal

pub returns-in-Some-clause-least : goal.returns-in-Some-clause-least
returns-in-Some-clause-least c = λ k lt gap.
    let here = member_is_gap c.self.inside c.in-Some.slot c.self.invariant c.in-Some.ensures.member in
    c.in-Some.ensures.least k (omega arith) lt (gap_is_member c.self.inside k c.self.invariant (omega (arith, lt, here.0)) (ap (λ xs. get_or xs k None) c.self.view_is ∙ gap))

pub returns-in-None-clause-least : goal.returns-in-None-clause-least
returns-in-None-clause-least c = λ k lt gap.
    c.in-None.ensures k (omega arith) (gap_is_member c.self.inside k c.self.invariant (omega (arith, lt)) (ap (λ xs. get_or xs k None) c.self.view_is ∙ gap))
