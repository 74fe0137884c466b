-- Lists without repeats.
use Rattle.std.proofs.Common.{◌≡◌, ◌+◌, ◌<◌, List, [], ◌∷◌, ◌++◌, length, Contains, get_or, sym, refl, ◌∙◌, subst, inl, inr, arith}
use Rattle.std.proofs.lemmas.Bool.{cases_lt}
use Rattle.std.proofs.lemmas.List.{get_or_append_left, get_or_at, length_push}
use Rattle.std.proofs.lemmas.List.Elements.{Contains-get_or}
use Rattle.nd_graph.specs.Walks.{AreDistinct}

-- one more that isn't there keeps the items distinct
pub distinct_push : {X : Type 0} (xs : List X) (x : X) → AreDistinct xs → (Contains xs x → ⊥) → AreDistinct (xs ++ x ∷ [])
distinct_push {X} xs x distinct fresh = record {
  apart = λ j k d lt inside same.
      let long : length (xs ++ x ∷ []) ≡ length xs + 1 = length_push xs x in
      let low : j < length xs = omega arith in
      let left : get_or (xs ++ x ∷ []) j d ≡ get_or xs j d = get_or_append_left xs (x ∷ []) d j low in
      elim (cases_lt k (length xs)) [
        | inl inner ↦ distinct.apart j k d lt inner (sym left ∙ same ∙ get_or_append_left xs (x ∷ []) d k inner)
        | inr past ↦
            let last : length xs ≡ k = omega arith in
            let at : get_or xs j d ≡ x = sym left ∙ same ∙ get_or_at xs x [] d k last in
            fresh (subst (λ (y : X). Contains xs y) at (Contains-get_or xs j d low))
      ];
}

-- the front of distinct items is distinct, and has not the last
pub distinct_front : {X : Type 0} (xs : List X) (x : X) → AreDistinct (xs ++ x ∷ []) → AreDistinct xs
distinct_front xs x distinct = record {
  apart = λ j k d lt inside same.
      let long : length (xs ++ x ∷ []) ≡ length xs + 1 = length_push xs x in
      distinct.apart j k d lt (omega arith)
      (get_or_append_left xs (x ∷ []) d j (omega arith) ∙ same ∙ sym (get_or_append_left xs (x ∷ []) d k inside));
}

pub distinct_last : {X : Type 0} (xs : List X) (x : X) → AreDistinct (xs ++ x ∷ []) → Contains xs x → ⊥
distinct_last xs x distinct at =
    let long : length (xs ++ x ∷ []) ≡ length xs + 1 = length_push xs x in
    distinct.apart at.0 (length xs) x at.1 (omega arith)
    (get_or_append_left xs (x ∷ []) x at.0 at.1 ∙ at.2 ∙ sym (get_or_at xs x [] x (length xs) refl))
