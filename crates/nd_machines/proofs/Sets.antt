-- Sets as strictly rising lists: there is one for each choice of items, and a binary search finds what it has.
use Rattle.std.proofs.Common.{◌≡◌, ℕ, Bool, true, false, ◌||◌, List, [], ◌∷◌, ◌↔◌, ◌≤◌, zero, suc, length, get_or, IsTrue, Contains, Ok, Err, inl, inr, refl, sym, subst, ◌∙◌, ap, arith}
use Rattle.std.specs.Prelude.{Result, is_ok}
use Rattle.std.specs.declared.cmp.Ordering.{Ordering}
use Rattle.std.specs.declared.cmp.Ordering.TheVariants.{Less, Equal, Greater}
use Rattle.std.specs.Ordering.{eq_by_cmp, is_eq, ordering_reverse, ordering_index}
use Rattle.std.specs.List.{AllByRecursion, dedup}
use Rattle.std.specs.List.Sorted.{IsStrictlySortedBy, IsSorted, IsPermutation, IsNonDecreasingBy, IsBinarySearchResult, IsSearchInRange}
use Rattle.std.specs.Cmp.{both_ways, tied_itself}
use Rattle.std.proofs.lemmas.Bool.{cases_lt}
use Rattle.std.proofs.lemmas.List.Elements.{All-from_recursion}
use Rattle.std.proofs.lemmas.List.Kept.{IsStrictlySortedBy-dedup, Contains-dedup, Contains-from_dedup}
use Rattle.std.proofs.lemmas.List.Sorted.{Contains-permutation, IsPermutation-sym}
use Rattle.nd_bytes.specs.Compared.{bytes_cmp, bytes_eq, bytes_ordered, bytes_ties, bytes_equal, bytes_same}
use Rattle.nd_machines.specs.FeatureSets.{IsRising, IsSetOf, HasOneSet, has_set, set_of}
use Rattle.nd_machines.specs.Insertion.{has, has-Contains, ties, tied_same, each_after}

-- an item that comes before each of a list is not in it
has_none : (x : List ℕ) (ys : List (List ℕ)) → AllByRecursion (λ y. bytes_cmp x y ≡ Less) ys → has x ys ≡ false
has_none x [] all = refl
has_none x (y ∷ ys) all = ap (λ o. is_eq o || has x ys) all.0 ∙ has_none x ys all.1

-- ---- two rising lists with the same items are equal

has_itself : (x : List ℕ) (xs : List (List ℕ)) → has x (x ∷ xs) ≡ true
has_itself x xs = ap (λ b. b || has x xs) (ties.refl x)

true_not_false : (a b : Bool) → a ≡ true → b ≡ false → a ≡ b → ⊥
true_not_false a b p q e = cc

-- where both rise, the one's first item does not come before the other's, since the other list has it too
not_before : (x y : List ℕ) (xs ys : List (List ℕ)) → AllByRecursion (λ z. bytes_cmp y z ≡ Less) ys → has x (x ∷ xs) ≡ has x (y ∷ ys) → bytes_cmp x y ≡ Less → ⊥
not_before x y xs ys above same e = true_not_false _ _ (has_itself x xs) (has_none x (y ∷ ys) (e, each_after x y ys e above)) same

pub rising_same : (xs ys : List (List ℕ)) → IsRising xs → IsRising ys → ((z : List ℕ) → has z xs ≡ has z ys) → xs ≡ ys
unfolding IsStrictlySortedBy
rising_same [] [] p q same = refl
rising_same [] (y ∷ ys) p q same = absurd (true_not_false _ _ (has_itself y ys) refl (sym (same y)))
rising_same (x ∷ xs) [] p q same = absurd (true_not_false _ _ (has_itself x xs) refl (same x))
rising_same (x ∷ xs) (y ∷ ys) p q same =
    elim (bytes_cmp x y) as (λ o. bytes_cmp x y ≡ o → x ∷ xs ≡ y ∷ ys) [
      | Less ↦ λ e. absurd (not_before x y xs ys q.0 (same x) e)
      | Equal ↦ λ e. λ i. tied_same x y e i ∷ rising_same xs ys p.1 q.1 (rest (tied_same x y e)) i
      | Greater ↦ λ e. absurd (not_before y x ys xs p.0 (sym (same y)) (bytes_ordered.antisymm y x ∙ ap ordering_reverse e))
    ] refl
  where
    -- the items behind one and the same first item
    rest : x ≡ y → (z : List ℕ) → has z xs ≡ has z ys
    rest one z =
        elim (eq_by_cmp bytes_cmp z x) as (λ b. eq_by_cmp bytes_cmp z x ≡ b → has z xs ≡ has z ys) [
          | true ↦ λ e. let is = bytes_same z x (bytes_ties z x ∙ e) in ap (λ w. has w xs) is ∙ has_none x xs p.0 ∙ sym (ap (λ w. has w ys) (is ∙ one) ∙ has_none y ys q.0)
          | false ↦ λ e. sym (ap (λ b. b || has z xs) e) ∙ same z ∙ ap (λ b. b || has z ys) (ap (eq_by_cmp bytes_cmp z) (sym one) ∙ e)
        ] refl

pub same_items : (xs ys : List (List ℕ)) → IsRising xs → IsRising ys → ((z : List ℕ) → Contains xs z ↔ Contains ys z) → xs ≡ ys
same_items xs ys p q same =
    rising_same xs ys p q (λ z. both_ways (has z xs) (has z ys) (λ e. (has-Contains z ys).1 ((same z).0 ((has-Contains z xs).0 e))) (λ e. (has-Contains z xs).1 ((same z).1 ((has-Contains z ys).0 e))))

-- `set_of` gives a set of the list
pub set_is : (items : List (List ℕ)) → IsSetOf items (set_of items)
unfolding set_of
set_is items = (has_set items).is

-- a list has one set
pub has_one_set : HasOneSet
has_one_set items set = (
  λ h.
      same_items set (set_of items) h.rising (set_is items).rising
      (λ x. (λ c. ((set_is items).same x).1 ((h.same x).0 c), λ c. (h.same x).1 (((set_is items).same x).0 c))),
  λ e. subst (λ (s : List (List ℕ)). IsSetOf items s) (sym e) (set_is items),
)

-- the set of no item, and of one
pub set_of_none : (items : List (List ℕ)) → items ≡ [] → set_of items ≡ []
unfolding IsStrictlySortedBy
set_of_none items none = ap set_of none ∙ sym ((has_one_set [] []).0 (record { rising = tt; same = λ x. (λ h. h, λ h. h) }))

pub set_of_one : (x : List ℕ) → set_of (x ∷ []) ≡ x ∷ []
unfolding IsStrictlySortedBy
set_of_one x = sym ((has_one_set (x ∷ []) (x ∷ [])).0 (record { rising = (tt, tt); same = λ y. (λ h. h, λ h. h) }))

-- ---- a list that is sorted and whose repeats are dropped

module _ (xs ys zs : List (List ℕ)) (moved : IsPermutation xs ys) (sorted : IsSorted bytes_cmp ys) (dropped : zs ≡ dedup bytes_eq ys) where
  pub sorted_rises : IsRising zs
  sorted_rises = rw dropped (IsStrictlySortedBy-dedup bytes_ordered bytes_ties ys sorted)

  pub sorted_same : (x : List ℕ) → Contains zs x ↔ Contains xs x
  sorted_same x = (
    λ h. Contains-permutation ys xs x (IsPermutation-sym xs ys moved) (Contains-from_dedup bytes_eq ys x (rw dropped at h)),
    λ h. rw dropped (Contains-dedup bytes_equal bytes_same ys x (Contains-permutation xs ys x moved h)),
  )

  pub sorted_set : IsSetOf xs zs
  sorted_set = record { rising = sorted_rises; same = sorted_same }

-- ---- a search in a rising list

at_most_two : (o : Ordering) → ordering_index o ≤ 2
at_most_two Less = omega arith
at_most_two Equal = omega arith
at_most_two Greater = omega arith

-- an earlier item stands no later against a third one
no_later : (x y z : List ℕ) → bytes_cmp x y ≡ Less → ordering_index (bytes_cmp x z) ≤ ordering_index (bytes_cmp y z)
no_later x y z before =
    elim (bytes_cmp y z) as (λ o. bytes_cmp y z ≡ o → ordering_index (bytes_cmp x z) ≤ ordering_index o) [
      | Less ↦ λ e. let none = ap ordering_index (bytes_ordered.trans x y z before e) in omega (arith, none)
      | Equal ↦ λ e. let none = ap ordering_index (ap (bytes_cmp x) (sym (tied_same y z e)) ∙ before) in omega (arith, none)
      | Greater ↦ λ e. at_most_two (bytes_cmp x z)
    ] refl

rising_against : (z : List ℕ) (xs : List (List ℕ)) → IsRising xs → IsNonDecreasingBy (λ y. ordering_index (bytes_cmp y z)) xs
unfolding IsStrictlySortedBy
rising_against z [] rises i j d le within = absurd (omega arith)
rising_against z (x ∷ xs) rises zero zero d le within = omega arith
rising_against z (x ∷ xs) rises zero (suc j) d le within =
    no_later x (get_or xs j d) z (All-from_recursion (λ y. bytes_cmp x y ≡ Less) xs rises.0 j d (omega arith))
rising_against z (x ∷ xs) rises (suc i) zero d le within = absurd (omega arith)
rising_against z (x ∷ xs) rises (suc i) (suc j) d le within = rising_against z xs rises.1 i j d (omega arith) (omega arith)

-- a binary search in a rising list finds an item exactly where the list has it
pub searched : (z : List ℕ) (xs : List (List ℕ)) (r : Result ℕ ℕ) → IsRising xs → IsSearchInRange r (length xs) → IsBinarySearchResult (λ y. bytes_cmp y z) xs r → IsTrue (is_ok r) ↔ Contains xs z
searched z xs (Ok i) rises within found = (λ _. (i, within, tied_same (get_or xs i z) z (found z)), λ _. refl)
searched z xs (Err i) rises within parted =
    let parts = parted (rising_against z xs rises) in (
      λ never. absurd (true_not_false false false never refl refl),
      λ has_it. elim (cases_lt has_it.0 i) [
        | inl below ↦ not_tied (get_or xs has_it.0 z) Less (parts.0 has_it.0 z (omega arith) below) (at_itself has_it.2) refl
        | inr above ↦ not_tied (get_or xs has_it.0 z) Greater (parts.1 has_it.0 z above has_it.1) (at_itself has_it.2) refl
      ],
    )
  where
    at_itself : {y : List ℕ} → y ≡ z → bytes_cmp y z ≡ Equal
    at_itself e = ap (λ y. bytes_cmp y z) e ∙ tied_itself bytes_ordered z

    not_tied : (y : List ℕ) (o : Ordering) → bytes_cmp y z ≡ o → bytes_cmp y z ≡ Equal → is_eq o ≡ false → IsTrue false
    not_tied y o p q never = absurd (true_not_false (is_eq Equal) (is_eq o) refl never (ap is_eq (sym q ∙ p)))
