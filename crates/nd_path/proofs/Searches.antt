-- Rising lists of store paths: what a binary search in one says, and what sorting and dropping repeats leaves.
use Rattle.std.proofs.Common.{◌≡◌, ℕ, ◌+◌, ◌<◌, false, List, [], length, get_or, inl, inr, ap, subst, sym, ◌∙◌, arith}
use Rattle.std.specs.declared.cmp.Ordering.TheVariants.{Less, Equal, Greater}
use Rattle.std.specs.declared.cmp.Ordering.{Ordering}
use Rattle.std.specs.Ordering.{is_lt, is_eq, ordering_index, ordering_reverse}
use Rattle.std.specs.List.{Contains, dedup}
use Rattle.std.specs.List.Sorted.{IsSortedBy, IsSorted, IsNonDecreasingBy, IsPartitionPoint, IsPermutation, IsStrictlySortedBy}
use Rattle.std.specs.Cmp.Lexicographic.{nat_list_cmp_total, nat_list_eq_equiv, texts_ties}
use Rattle.std.proofs.lemmas.Bool.{cases_lt}
use Rattle.std.proofs.lemmas.Map.Keys.{Less-from_sorted}
use Rattle.std.proofs.lemmas.List.Sorted.{searchable_from_sorted, IsPermutation-sym, Contains-permutation}
use Rattle.std.proofs.lemmas.List.Kept.{IsStrictlySortedBy-dedup, Contains-dedup, Contains-from_dedup}
use Rattle.nd_path.specs.StorePath.{path_cmp, path_eq}
use Rattle.nd_path.specs.SamePaths.{paths_same}
use Rattle.nd_path.specs.PathSets.{IsRising, HasSameMembers}

-- what is less one way round is greater, and so not less, the other way round
pub turned : (a b : List ℕ) → path_cmp a b ≡ Less → is_lt (path_cmp b a) ≡ false
turned a b e = ap is_lt (nat_list_cmp_total.antisymm b a ∙ ap ordering_reverse e)

-- no path compares to itself as anything but equal
itself : (a : List ℕ) (o : Ordering) → path_cmp a a ≡ o → o ≡ ordering_reverse o
itself a o e = sym e ∙ nat_list_cmp_total.antisymm a a ∙ ap ordering_reverse e

-- along a rising list the comparison with one path does not fall
pub rising_compares : (paths : List (List ℕ)) (p : List ℕ) → IsRising paths → IsNonDecreasingBy (λ q. ordering_index (path_cmp q p)) paths
rising_compares paths p h =
    let steps : IsSortedBy (λ a b. is_lt (path_cmp a b)) paths =
    λ k d low high. turned (get_or paths k d) (get_or paths (k + 1) d) (Less-from_sorted path_cmp paths k (k + 1) d h.rises (omega arith) high) in
    searchable_from_sorted nat_list_cmp_total (λ (q : List ℕ). q) paths p steps

-- an item that compares equal is the path
pub found_at : (paths : List (List ℕ)) (p : List ℕ) (i : ℕ) → i < length paths → path_cmp (get_or paths i p) p ≡ Equal → Contains paths p
found_at paths p i within e = (i, within, paths_same (get_or paths i p) p (texts_ties (get_or paths i p) p ∙ ap is_eq e))

-- between the lesser and the greater items there is no place for a member
pub not_found : (paths : List (List ℕ)) (p : List ℕ) (i : ℕ) → IsRising paths
    → (IsNonDecreasingBy (λ q. ordering_index (path_cmp q p)) paths → IsPartitionPoint (λ q. path_cmp q p ≡ Less) (λ q. path_cmp q p ≡ Greater) paths i)
    → Contains paths p → ⊥
not_found paths p i h cut there =
    elim (cases_lt there.0 i) [
      | inl before ↦ (let e = itself p Less (subst (λ (q : List ℕ). path_cmp q p ≡ Less) there.2 ((cut (rising_compares paths p h)).0 there.0 p (omega arith) before)) in cc)
      | inr after ↦ (let e = itself p Greater (subst (λ (q : List ℕ). path_cmp q p ≡ Greater) there.2 ((cut (rising_compares paths p h)).1 there.0 p after there.1)) in cc)
    ]

-- what is left of a sorted list without its repeats rises
pub rising_from_sorted : (sorted left : List (List ℕ)) → IsSorted path_cmp sorted → left ≡ dedup path_eq sorted → IsRising left
rising_from_sorted sorted left h e = rw e (record { rises = IsStrictlySortedBy-dedup nat_list_cmp_total texts_ties sorted h })

-- sorting a list and dropping its repeats keeps its members
pub members_kept : (items sorted left : List (List ℕ)) → IsPermutation items sorted → left ≡ dedup path_eq sorted → HasSameMembers items left
members_kept items sorted left moved e = rw e (record {
  to = λ p h. Contains-dedup nat_list_eq_equiv paths_same sorted p (Contains-permutation items sorted p moved h);
  from = λ p h. Contains-permutation sorted items p (IsPermutation-sym items sorted moved) (Contains-from_dedup path_eq sorted p h);
})

-- the empty list rises
pub rising_empty : IsRising []
unfolding IsStrictlySortedBy
rising_empty = record { rises = tt }
