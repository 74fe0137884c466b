-- Tables that say the same of every path.
use Rattle.std.proofs.Common.{◌≡◌, ℕ, Bool, true, false, not, ◌||◌, if◌then◌else◌, List, [], ◌∷◌, ◌++◌, sym, ap, subst, ◌∙◌, append_assoc, inl, inr}
use Rattle.std.proofs.lemmas.Bool.{cases_Bool}
use Rattle.std.proofs.lemmas.List.{append-nil}
use Rattle.nd_path.specs.StorePath.{path_eq}
use Rattle.nd_path.specs.SamePaths.{paths_same}
use Rattle.nd_closure.specs.Tables.{is_listed, refs_of}
use Rattle.nd_provision.specs.Stored.{LooksLike}
use Rattle.nd_history.proofs.Reported.{refs_first, refs_second, refs_unlisted, listed_both}

pub looks_same : (t u : List (List ℕ × List (List ℕ))) → t ≡ u → LooksLike t u
looks_same t u same = record { refs = λ p. ap (λ (x : List (List ℕ × List (List ℕ))). refs_of x p) same; listed = λ p. ap (λ (x : List (List ℕ × List (List ℕ))). is_listed x p) same }

pub looks_through : (t u v : List (List ℕ × List (List ℕ))) → LooksLike t u → LooksLike u v → LooksLike t v
looks_through t u v one two = record { refs = λ p. one.refs p ∙ two.refs p; listed = λ p. one.listed p ∙ two.listed p }

-- the same entries behind both
pub looks_longer : (t u more : List (List ℕ × List (List ℕ))) → LooksLike t u → LooksLike (t ++ more) (u ++ more)
looks_longer t u more like = record {
  refs = λ p. elim (cases_Bool (is_listed t p)) [
    | inl here ↦ refs_first t more p here ∙ like.refs p ∙ sym (refs_first u more p (sym (like.listed p) ∙ here))
    | inr past ↦ refs_second t more p past ∙ sym (refs_second u more p (sym (like.listed p) ∙ past))
  ];
  listed = λ p. listed_both t more p ∙ ap (λ (b : Bool). b || is_listed more p) (like.listed p) ∙ sym (listed_both u more p);
}

-- an entry for a path that is listed says nothing new
pub looks_again : (t : List (List ℕ × List (List ℕ))) (e : List ℕ × List (List ℕ)) → is_listed t e.0 ≡ true → LooksLike t (t ++ e ∷ [])
looks_again t e known = record {
  refs = λ p. elim (cases_Bool (is_listed t p)) [
    | inl here ↦ sym (refs_first t (e ∷ []) p here)
    | inr past ↦ refs_unlisted t p past ∙ sym (alone t e p known past) ∙ sym (refs_second t (e ∷ []) p past)
  ];
  listed = λ p. elim (cases_Bool (is_listed t p)) [
    | inl here ↦ here ∙ sym (listed_both t (e ∷ []) p ∙ ap (λ (b : Bool). b || is_listed (e ∷ []) p) here)
    | inr past ↦ past ∙ sym (listed_both t (e ∷ []) p ∙ ap (λ (b : Bool). b || is_listed (e ∷ []) p) past ∙ ap (λ (b : Bool). b || false) (other t e p known past))
  ];
}
  where
    other : (t : List (List ℕ × List (List ℕ))) (e : List ℕ × List (List ℕ)) (p : List ℕ) → is_listed t e.0 ≡ true → is_listed t p ≡ false → path_eq p e.0 ≡ false
    other t e p known past = elim (cases_Bool (path_eq p e.0)) [
      | inl same ↦ (let there : is_listed t p ≡ true = subst (λ (x : List ℕ). is_listed t x ≡ true) (sym (paths_same p e.0 same)) known in cc)
      | inr apart ↦ apart
    ]

    alone : (t : List (List ℕ × List (List ℕ))) (e : List ℕ × List (List ℕ)) (p : List ℕ) → is_listed t e.0 ≡ true → is_listed t p ≡ false → refs_of (e ∷ []) p ≡ []
    alone t e p known past = elim (cases_Bool (path_eq p e.0)) [
      | inl same ↦ (let there : is_listed t p ≡ true = subst (λ (x : List ℕ). is_listed t x ≡ true) (sym (paths_same p e.0 same)) known in cc)
      | inr apart ↦ ap (λ (b : Bool). if b then e.1 else []) apart
    ]

-- one more entry is entered
pub looks_more : (t new base seen : List (List ℕ × List (List ℕ))) (e : List ℕ × List (List ℕ)) (added : Bool) → LooksLike t (base ++ seen) → added ≡ not (is_listed t e.0)
    → new ≡ (if added then t ++ e ∷ [] else t) → LooksLike new (base ++ (seen ++ e ∷ []))
looks_more t new base seen e added like is made =
    let after : LooksLike (t ++ e ∷ []) (base ++ (seen ++ e ∷ [])) =
    looks_through (t ++ e ∷ []) ((base ++ seen) ++ e ∷ []) (base ++ (seen ++ e ∷ [])) (looks_longer t (base ++ seen) (e ∷ []) like) (looks_same _ _ (append_assoc base seen (e ∷ []))) in
    elim (cases_Bool (is_listed t e.0)) [
      | inl known ↦
          let stays : new ≡ t = made ∙ ap (λ (b : Bool). if b then t ++ e ∷ [] else t) (is ∙ ap not known) in
          looks_through new t (base ++ (seen ++ e ∷ [])) (looks_same new t stays) (looks_through t (t ++ e ∷ []) (base ++ (seen ++ e ∷ [])) (looks_again t e known) after)
      | inr fresh ↦
          let grows : new ≡ t ++ e ∷ [] = made ∙ ap (λ (b : Bool). if b then t ++ e ∷ [] else t) (is ∙ ap not fresh) in
          looks_through new (t ++ e ∷ []) (base ++ (seen ++ e ∷ [])) (looks_same new (t ++ e ∷ []) grows) after
    ]

pub looks_at_first : (t : List (List ℕ × List (List ℕ))) → LooksLike t (t ++ [])
looks_at_first t = looks_same t (t ++ []) (sym (append-nil t))
