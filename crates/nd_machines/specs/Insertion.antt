-- That each list has a set: its items, put at their places one by one. No clause cites these definitions. `set_of` of `FeatureSets`
-- rests on them for there being a set, and says by itself which one it is.
use Rattle.std.specs.Prelude.{◌≡◌, ◌↔◌, ℕ, Bool, true, false, ◌||◌, List, [], ◌∷◌, Contains}
use Rattle.std.specs.declared.cmp.Ordering.TheVariants.{Less, Equal, Greater}
use Rattle.std.specs.Ordering.{eq_by_cmp, ordering_reverse, match_ordering}
use Rattle.std.specs.List.{list_any, AllByRecursion}
use Rattle.std.specs.List.Sorted.{IsStrictlySortedBy}
use Rattle.std.specs.Cmp.{IsEquivalence}
use Rattle.std.specs.FinMap.{IsAntisymmetric, nat_cmp-IsAntisymmetric, slice_cmp-IsAntisymmetric}
use Rattle.std.proofs.Common.{refl, sym, ◌∙◌, ap}
use Rattle.std.proofs.lemmas.Cmp.{eq_by_cmp_equiv}
use Rattle.std.proofs.lemmas.Map.Views.{list_any-from_Contains, Contains-from_any}
use Rattle.nd_bytes.specs.Compared.{bytes_cmp, bytes_ordered, bytes_ties, bytes_same}

-- an item at its place among those of a rising list
unfoldable pub put : List ℕ → List (List ℕ) → List (List ℕ)
put x [] = x ∷ []
put x (y ∷ ys) = match_ordering (bytes_cmp x y) (x ∷ y ∷ ys) (y ∷ ys) (y ∷ put x ys)

-- .. each item of a list
unfoldable pub inserted : List (List ℕ) → List (List ℕ)
inserted [] = []
inserted (x ∷ xs) = put x (inserted xs)

-- ---- that it rises

pub tied_same : IsAntisymmetric bytes_cmp
tied_same = slice_cmp-IsAntisymmetric nat_cmp-IsAntisymmetric

each_weaker : (P Q : List ℕ → Type 0) → ((x : List ℕ) → P x → Q x) → (xs : List (List ℕ)) → AllByRecursion P xs → AllByRecursion Q xs
each_weaker P Q f [] all = tt
each_weaker P Q f (x ∷ xs) all = (f x all.0, each_weaker P Q f xs all.1)

-- an item that comes before another comes before those after the other
pub each_after : (x y : List ℕ) (ys : List (List ℕ)) → bytes_cmp x y ≡ Less → AllByRecursion (λ z. bytes_cmp y z ≡ Less) ys → AllByRecursion (λ z. bytes_cmp x z ≡ Less) ys
each_after x y ys e all = each_weaker (λ z. bytes_cmp y z ≡ Less) (λ z. bytes_cmp x z ≡ Less) (λ z f. bytes_ordered.trans x y z e f) ys all

each_put : (P : List ℕ → Type 0) (x : List ℕ) (ys : List (List ℕ)) → P x → AllByRecursion P ys → AllByRecursion P (put x ys)
unfolding put
each_put P x [] one all = (one, tt)
each_put P x (y ∷ ys) one all =
    elim (bytes_cmp x y) as (λ o. AllByRecursion P (match_ordering o (x ∷ y ∷ ys) (y ∷ ys) (y ∷ put x ys))) [
      | Less ↦ (one, all)
      | Equal ↦ all
      | Greater ↦ (all.0, each_put P x ys one all.1)
    ]

put_rises : (x : List ℕ) (ys : List (List ℕ)) → IsStrictlySortedBy bytes_cmp ys → IsStrictlySortedBy bytes_cmp (put x ys)
unfolding put IsStrictlySortedBy
put_rises x [] rises = (tt, tt)
put_rises x (y ∷ ys) rises =
    elim (bytes_cmp x y) as (λ o. bytes_cmp x y ≡ o → IsStrictlySortedBy bytes_cmp (match_ordering o (x ∷ y ∷ ys) (y ∷ ys) (y ∷ put x ys))) [
      | Less ↦ λ e. ((e, each_after x y ys e rises.0), rises)
      | Equal ↦ λ e. rises
      | Greater ↦ λ e. (each_put (λ z. bytes_cmp y z ≡ Less) x ys (bytes_ordered.antisymm y x ∙ ap ordering_reverse e) rises.0, put_rises x ys rises.1)
    ] refl

pub inserted_rises : (xs : List (List ℕ)) → IsStrictlySortedBy bytes_cmp (inserted xs)
unfolding inserted IsStrictlySortedBy
inserted_rises [] = tt
inserted_rises (x ∷ xs) = put_rises x (inserted xs) (inserted_rises xs)

-- ---- that it has the same items

-- whether an item is in a list
abbrev pub has : List ℕ → List (List ℕ) → Bool
has x ys = list_any (eq_by_cmp bytes_cmp x) ys

pub ties : IsEquivalence (eq_by_cmp bytes_cmp)
ties = eq_by_cmp_equiv bytes_ordered

or_swap : (a b c : Bool) → (a || (b || c)) ≡ (b || (a || c))
or_swap true true c = refl
or_swap true false c = refl
or_swap false b c = refl

or_twice : (a b : Bool) → (a || b) ≡ (a || (a || b))
or_twice true b = refl
or_twice false b = refl

-- the items of a list with one more: that one, and those of the list
any-put : (p : List ℕ → Bool) (x : List ℕ) (ys : List (List ℕ)) → list_any p (put x ys) ≡ (p x || list_any p ys)
unfolding put
any-put p x [] = refl
any-put p x (y ∷ ys) =
    elim (bytes_cmp x y) as (λ o. bytes_cmp x y ≡ o → list_any p (match_ordering o (x ∷ y ∷ ys) (y ∷ ys) (y ∷ put x ys)) ≡ (p x || list_any p (y ∷ ys))) [
      | Less ↦ λ e. refl
      | Equal ↦ λ e. or_twice (p y) (list_any p ys) ∙ ap (λ z. p z || list_any p (y ∷ ys)) (sym (tied_same x y e))
      | Greater ↦ λ e. ap (λ b. p y || b) (any-put p x ys) ∙ or_swap (p y) (p x) (list_any p ys)
    ] refl

any-inserted : (p : List ℕ → Bool) (xs : List (List ℕ)) → list_any p (inserted xs) ≡ list_any p xs
unfolding inserted
any-inserted p [] = refl
any-inserted p (x ∷ xs) = any-put p x (inserted xs) ∙ ap (λ b. p x || b) (any-inserted p xs)

pub has-Contains : (x : List ℕ) (xs : List (List ℕ)) → (has x xs ≡ true) ↔ Contains xs x
has-Contains x xs = (Contains-from_any (λ y z e. bytes_same y z (bytes_ties y z ∙ e)) x xs, list_any-from_Contains ties x xs)

pub inserted_same : (xs : List (List ℕ)) (x : List ℕ) → Contains (inserted xs) x ↔ Contains xs x
inserted_same xs x =
    let is : has x (inserted xs) ≡ has x xs = any-inserted (eq_by_cmp bytes_cmp x) xs in
    (λ h. (has-Contains x xs).0 (sym is ∙ (has-Contains x (inserted xs)).1 h), λ h. (has-Contains x (inserted xs)).0 (is ∙ (has-Contains x xs).1 h))
