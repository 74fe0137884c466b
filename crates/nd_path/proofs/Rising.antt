-- Two rising lists with the same members are one list.
use Rattle.std.proofs.Common.{◌≡◌, ℕ, List, [], ◌∷◌, refl, sym, ap, subst, ◌∙◌, inl, inr, arith, true≢false}
use Rattle.std.specs.declared.cmp.Ordering.TheVariants.{Less}
use Rattle.std.specs.Prelude.{◌⊎◌}
use Rattle.std.specs.Ordering.{is_lt}
use Rattle.std.specs.List.{Contains, AllByRecursion}
use Rattle.std.specs.List.Sorted.{IsStrictlySortedBy}
use Rattle.std.proofs.lemmas.List.Elements.{Contains-push_cases, Contains-append_cases, Contains-append_right}
use Rattle.nd_path.specs.StorePath.{path_cmp}
use Rattle.nd_path.specs.PathSets.{IsRising, HasSameMembers}
use Rattle.nd_path.proofs.Searches.{turned}

first_or_other : (x : List ℕ) (xs : List (List ℕ)) (p : List ℕ) → Contains (x ∷ xs) p → (x ≡ p) ⊎ Contains xs p
first_or_other x xs p h = elim (Contains-append_cases (x ∷ []) xs p h) [
  | inl first ↦ (elim (Contains-push_cases [] x p first) [ inl none ↦ absurd (omega (arith, none.1)) | inr same ↦ inl same ])
  | inr other ↦ inr other
]

-- what is below each item of a list is below each member
below_all : (x : List ℕ) (xs : List (List ℕ)) → AllByRecursion (λ y. path_cmp x y ≡ Less) xs → (p : List ℕ) → Contains xs p → path_cmp x p ≡ Less
below_all x [] h p there = absurd (omega (arith, there.1))
below_all x (y ∷ ys) h p there = elim (first_or_other y ys p there) [
  | inl same ↦ subst (λ (q : List ℕ). path_cmp x q ≡ Less) same h.0
  | inr later ↦ below_all x ys h.1 p later
]

not_both : (x y : List ℕ) → path_cmp x y ≡ Less → path_cmp y x ≡ Less → ⊥
not_both x y h k = true≢false (sym (ap is_lt k) ∙ turned x y h)

same_first : (x y : List ℕ) (xs ys : List (List ℕ)) → AllByRecursion (λ z. path_cmp x z ≡ Less) xs → AllByRecursion (λ z. path_cmp y z ≡ Less) ys
    → HasSameMembers (x ∷ xs) (y ∷ ys) → x ≡ y
same_first x y xs ys s t h =
    elim (first_or_other y ys x (h.to x (0, omega arith, refl))) [
      | inl same ↦ sym same
      | inr later ↦ (elim (first_or_other x xs y (h.from y (0, omega arith, refl))) [
        | inl same ↦ same
        | inr too ↦ absurd (not_both x y (below_all x xs s y too) (below_all y ys t x later))
      ])
    ]

-- a member behind the first is behind the other list's first
behind_first : (x y : List ℕ) (xs ys : List (List ℕ)) → x ≡ y → AllByRecursion (λ z. path_cmp x z ≡ Less) xs
    → ((p : List ℕ) → Contains (x ∷ xs) p → Contains (y ∷ ys) p) → (p : List ℕ) → Contains xs p → Contains ys p
behind_first x y xs ys same s h p there = elim (first_or_other y ys p (h p (Contains-append_right (x ∷ []) xs p there))) [
  | inl first ↦ absurd (let e : path_cmp x x ≡ Less = subst (λ (q : List ℕ). path_cmp x q ≡ Less) (sym (same ∙ first)) (below_all x xs s p there) in not_both x x e e)
  | inr later ↦ later
]

same_sorted : (xs ys : List (List ℕ)) → IsStrictlySortedBy path_cmp xs → IsStrictlySortedBy path_cmp ys → HasSameMembers xs ys → xs ≡ ys
unfolding IsStrictlySortedBy
same_sorted [] [] s t h = refl
same_sorted [] (y ∷ ys) s t h = absurd (let there = h.from y (0, omega arith, refl) in omega (arith, there.1))
same_sorted (x ∷ xs) [] s t h = absurd (let there = h.to x (0, omega arith, refl) in omega (arith, there.1))
same_sorted (x ∷ xs) (y ∷ ys) s t h =
    let first = same_first x y xs ys s.0 t.0 h in
    let others = same_sorted xs ys s.1 t.1 (record { to = behind_first x y xs ys first s.0 h.to; from = behind_first y x ys xs (sym first) t.0 h.from }) in
    λ i. first i ∷ others i

pub rising_same : (paths others : List (List ℕ)) → IsRising paths → IsRising others → HasSameMembers paths others → paths ≡ others
rising_same paths others s t h = same_sorted paths others s.rises t.rises h
