-- Paths that are added behind others.
use Rattle.std.proofs.Common.{◌≡◌, ℕ, ◌+◌, ◌<◌, List, [], ◌∷◌, ◌++◌, length, take, get_or, sym, ap, subst, ◌∙◌, append_assoc, inl, inr, arith}
use Rattle.std.specs.List.{Contains}
use Rattle.std.proofs.lemmas.List.{take_more, append-nil}
use Rattle.std.proofs.lemmas.List.Elements.{Contains-push_cases, Contains-append_left}
use Rattle.nd_closure.specs.Closures.{HoldsAll, AddsOnly}

pub holds_none : (paths : List (List ℕ)) → HoldsAll paths []
holds_none paths = record { each = λ p h. absurd (omega (arith, h.1)) }

pub adds_none : (paths others : List (List ℕ)) → AddsOnly paths paths others
adds_none paths others = record { added = []; grown = sym (append-nil paths); among = holds_none others }

pub adds_one : (old new paths : List (List ℕ)) (p : List ℕ) → AddsOnly old new paths → Contains paths p → AddsOnly old (new ++ p ∷ []) paths
adds_one old new paths p h there = record {
  added = h.added ++ p ∷ [];
  grown = ap (λ (xs : List (List ℕ)). xs ++ p ∷ []) h.grown ∙ append_assoc old h.added (p ∷ []);
  among = record {
    each = λ q k. elim (Contains-push_cases h.added p q k) [
      | inl before ↦ h.among.each q before
      | inr same ↦ subst (λ (r : List ℕ). Contains paths r) same there
    ];
  };
}

pub holds_grown : (paths more others : List (List ℕ)) → HoldsAll paths others → HoldsAll (paths ++ more) others
holds_grown paths more others h = record { each = λ p k. Contains-append_left paths more p (h.each p k) }

pub holds_more : (paths others : List (List ℕ)) (i : ℕ) (p : List ℕ) → i < length others → p ≡ get_or others i p → HoldsAll paths (take i others) → Contains paths p
    → HoldsAll paths (take (i + 1) others)
holds_more paths others i p within is h there = rw (take_more others i p within) (record {
  each = λ q k. elim (Contains-push_cases (take i others) (get_or others i p) q k) [
    | inl before ↦ h.each q before
    | inr same ↦ subst (λ (r : List ℕ). Contains paths r) (is ∙ same) there
  ];
})
