use Rattle.std.proofs.Common.{inl, inr, sym, ◌∙◌, true≢false}
use Rattle.std.proofs.lemmas.List.Elements.{Contains-append_right, Contains-append_cases}
use Rattle.nd_eligible.proofs.eligibility.is_in_either.Goals as goal

-- the item isn't in the first, so it is in both together where it is in the second
pub returns-else-contains : goal.returns-else-contains
returns-else-contains c = (
  λ found. Contains-append_right _ _ _ (c.contains-else-contains.ensures.0 found),
  λ found. elim (Contains-append_cases _ _ _ found) [
    | inl first ↦ absurd (true≢false (sym (c.contains.ensures.1 first) ∙ c.if-contains.false))
    | inr second ↦ c.contains-else-contains.ensures.1 second
  ],
)
