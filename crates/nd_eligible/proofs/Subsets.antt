-- Going through the items of a set, and asking of each whether it is in another.
use Rattle.std.proofs.Common.{◌≡◌, ◌∙◌, inl, inr, ℕ, ◌+◌, ◌<◌, List, length, take, get_or, arith, sym, subst, ap}
use Rattle.std.specs.Prelude.{Contains}
use Rattle.std.proofs.lemmas.List.{take_more}
use Rattle.std.proofs.lemmas.List.Elements.{Contains-push_cases, Contains-get_or}
use Rattle.std.proofs.Math.Seq.{take-length}
use Rattle.nd_eligible.specs.Eligibility.{IsSubset}

-- none of them is asked yet
pub subset_none : (items others : List (List ℕ)) → IsSubset (take 0 items) others
subset_none items others = record { each = λ item h. absurd (omega (arith, h.1)) }

-- one more is in the other set
pub subset_more : (items others : List (List ℕ)) (i : ℕ) (x : List ℕ) → i < length items → x ≡ get_or items i x
    → IsSubset (take i items) others → Contains others x → IsSubset (take (i + 1) items) others
subset_more items others i x within is before here = record {
  each = λ item h. elim (Contains-push_cases (take i items) x item (subst (λ (xs : List (List ℕ)). Contains xs item) (rw (← is) at (take_more items i x within)) h)) as (λ _. Contains others item) [
    | inl old ↦ before.each item old
    | inr same ↦ subst (λ (y : List ℕ). Contains others y) same here
  ];
}

-- all of them are
pub subset_all : (items others : List (List ℕ)) (n : ℕ) → n ≡ length items → IsSubset (take n items) others → IsSubset items others
subset_all items others n whole before = subst (λ (xs : List (List ℕ)). IsSubset xs others) (ap (λ m. take m items) whole ∙ take-length items) before

-- one of them isn't
pub subset_fails : (items others : List (List ℕ)) (i : ℕ) (x : List ℕ) → i < length items → x ≡ get_or items i x
    → (Contains others x → ⊥) → IsSubset items others → ⊥
subset_fails items others i x within is none all = none (all.each x (subst (λ (y : List ℕ). Contains items y) (sym is) (Contains-get_or items i x within)))

pub ruleset steps = (subset_none, subset_more, subset_all, subset_fails)
