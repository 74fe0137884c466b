-- Counts over lists.
use Rattle.std.proofs.Common.{◌≡◌, ◌+◌, ◌<◌, ◌≤◌, ℕ, Bool, true, false, cond, eqb, suc, subst, inl, inr, List, [], ◌∷◌, Contains, suc-le-suc, zero-add, ◌⊎◌, refl, sym, ◌∙◌, ap, arith}
use Rattle.std.specs.List.{count_by}
use Rattle.std.proofs.lemmas.List.Sums.{sum_by-cons, get_or-le-sum_by}
use Rattle.std.proofs.lemmas.Bool.{eqb-true}

-- one more at the front
pub count_by-cons : {X : Type 0} (p : X → Bool) (x : X) (xs : List X) → count_by p (x ∷ xs) ≡ cond (p x) 1 0 + count_by p xs
count_by-cons p x xs = sum_by-cons (λ y. cond (p y) 1 0) x xs

-- tests that agree count the same
pub count_by-same : {X : Type 0} (p q : X → Bool) → ((x : X) → p x ≡ q x) → (xs : List X) → count_by p xs ≡ count_by q xs
count_by-same p q same [] = refl
count_by-same p q same (x ∷ xs) =
    count_by-cons p x xs ∙ ap (λ (b : Bool). cond b 1 0 + count_by p xs) (same x)
    ∙ ap (λ (n : ℕ). cond (q x) 1 0 + n) (count_by-same p q same xs) ∙ sym (count_by-cons q x xs)

-- what the rest of a list has, the list has
pub Contains-later : {X : Type 0} (y : X) (xs : List X) (x : X) → Contains xs x → Contains (y ∷ xs) x
Contains-later y xs x has = (suc has.0, suc-le-suc has.1, has.2)

-- the first of a list is in it
pub Contains-first : {X : Type 0} (x : X) (xs : List X) → Contains (x ∷ xs) x
Contains-first x xs = (0, omega arith, refl)

-- a test passes or fails
pub true_or_false : (b : Bool) → (b ≡ true) ⊎ (b ≡ false)
true_or_false true = inl refl
true_or_false false = inr refl

-- one that fails counts for nothing, one that passes for one
pub count_by-cons_no : {X : Type 0} (p : X → Bool) (x : X) (xs : List X) → p x ≡ false → count_by p (x ∷ xs) ≡ count_by p xs
count_by-cons_no p x xs fails =
    count_by-cons p x xs ∙ ap (λ (b : Bool). cond b 1 0 + count_by p xs) fails ∙ zero-add (count_by p xs)

pub count_by-cons_yes : {X : Type 0} (p : X → Bool) (x : X) (xs : List X) → p x ≡ true → count_by p (x ∷ xs) ≡ 1 + count_by p xs
count_by-cons_yes p x xs passes = count_by-cons p x xs ∙ ap (λ (b : Bool). cond b 1 0 + count_by p xs) passes

-- a test that none passes counts none
pub count_by-none : {X : Type 0} (p : X → Bool) (xs : List X) → ((x : X) → Contains xs x → p x ≡ false) → count_by p xs ≡ 0
count_by-none p [] none = refl
count_by-none p (x ∷ xs) none =
    count_by-cons_no p x xs (none x (Contains-first x xs)) ∙ count_by-none p xs (λ y has. none y (Contains-later x xs y has))

-- what is counted is there
pub Contains-from_count : (c : ℕ) (xs : List ℕ) → 0 < count_by (eqb c) xs → Contains xs c
Contains-from_count c [] some = absurd (omega arith)
Contains-from_count c (x ∷ xs) some = elim (true_or_false (eqb c x)) [
  | inl same ↦ subst (λ (y : ℕ). Contains (x ∷ xs) y) (sym (eqb-true c x same)) (Contains-first x xs)
  | inr apart ↦ Contains-later x xs c (Contains-from_count c xs
      (subst (λ (n : ℕ). 0 < n) (count_by-cons_no (eqb c) x xs apart) some))
]

-- what is there is counted
pub count-from_Contains : {X : Type 0} (p : X → Bool) (xs : List X) (x : X) → Contains xs x → p x ≡ true → 0 < count_by p xs
count-from_Contains p xs x has passes =
    let counted = get_or-le-sum_by (λ y. cond (p y) 1 0) xs has.0 x has.1 in
    subst (λ (n : ℕ). n ≤ count_by p xs) (ap (λ y. cond (p y) 1 0) has.2 ∙ ap (λ (b : Bool). cond b 1 0) passes) counted
