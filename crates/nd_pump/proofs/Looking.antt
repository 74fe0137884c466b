-- The free builders among some places, found place by place.
use Rattle.std.proofs.Common.{◌≡◌, ◌∙◌, inl, inr, ℕ, ◌+◌, ◌-◌, ◌<◌, ◌≤◌, Bool, false, None, Some, List, [], ◌∷◌, length, get_or, eqb-true, sym, ap, subst, arith}
use Rattle.std.specs.Prelude.{Contains, slice_set}
use Rattle.std.specs.declared.cmp.Ordering.TheVariants.{Less, Equal, Greater}
use Rattle.std.specs.declared.cmp.Ordering.{Ordering}
use Rattle.std.specs.Ordering.{is_lt, is_eq, ordering_index, ordering_reverse}
use Rattle.std.specs.List.Sorted.{IsStrictlyIncreasing, IsSortedBy, IsNonDecreasingBy, IsPartitionPoint, IsStrictlySortedBy}
use Rattle.std.specs.Ordering.{nat_cmp}
use Rattle.std.specs.Cmp.{nat_cmp_total, unsigned_ties}
use Rattle.std.proofs.Math.ListN.{length-set}
use Rattle.std.proofs.lemmas.Bool.{cases_eq, cases_lt}
use Rattle.std.proofs.lemmas.List.{get_or-set_other, get_or_default}
use Rattle.std.proofs.lemmas.List.Elements.{Contains-append_left, Contains-push, Contains-push_cases}
use Rattle.std.proofs.lemmas.List.Kept.{AllPairs-from_increasing}
use Rattle.std.proofs.lemmas.List.Sorted.{searchable_from_sorted}
use Rattle.std.proofs.lemmas.Map.Keys.{Less-from_sorted, sorted_from_strictly_increasing}
use Rattle.nd_machines.specs.Builders.{Builder}
use Rattle.nd_eligible.proofs.Places.{rising_on}
use Rattle.nd_flags.specs.Members.{IsMember, IsFirstFrom, IsLeastFrom}
use Rattle.nd_choose.specs.Best.{IsFree}
use Rattle.nd_hook.specs.Few.{HoldFree}
use Rattle.nd_pump.specs.Vacancies.{HoldVacant}
use Rattle.nd_pump.specs.Few.{AreFrom, AreUpTo, IsFirstUpTo, HasLooked, AreLooked}

-- ---- a number in a rising list

turned : (a b : ℕ) → nat_cmp a b ≡ Less → is_lt (nat_cmp b a) ≡ false
turned a b e = ap is_lt (nat_cmp_total.antisymm b a ∙ ap ordering_reverse e)

itself : (a : ℕ) (o : Ordering) → nat_cmp a a ≡ o → o ≡ ordering_reverse o
itself a o e = sym e ∙ nat_cmp_total.antisymm a a ∙ ap ordering_reverse e

rising_compares : (xs : List ℕ) (n : ℕ) → IsStrictlyIncreasing xs → IsNonDecreasingBy (λ m. ordering_index (nat_cmp m n)) xs
rising_compares xs n rises =
    let sorted : IsStrictlySortedBy nat_cmp xs = sorted_from_strictly_increasing xs rises in
    let steps : IsSortedBy (λ a b. is_lt (nat_cmp a b)) xs =
    λ k d low high. turned (get_or xs k d) (get_or xs (k + 1) d) (Less-from_sorted nat_cmp xs k (k + 1) d sorted (omega arith) high) in
    searchable_from_sorted nat_cmp_total (λ (m : ℕ). m) xs n steps

-- a number that compares equal is there
pub found_at : (xs : List ℕ) (n i : ℕ) → i < length xs → nat_cmp (get_or xs i n) n ≡ Equal → Contains xs n
found_at xs n i within e = (i, within, eqb-true (get_or xs i n) n (unsigned_ties (get_or xs i n) n ∙ ap is_eq e))

-- between the lesser and the greater numbers there is no place for a member
pub not_found : (xs : List ℕ) (n i : ℕ) → IsStrictlyIncreasing xs
    → (IsNonDecreasingBy (λ m. ordering_index (nat_cmp m n)) xs → IsPartitionPoint (λ m. nat_cmp m n ≡ Less) (λ m. nat_cmp m n ≡ Greater) xs i)
    → Contains xs n → ⊥
not_found xs n i rises cut there =
    elim (cases_lt there.0 i) [
      | inl before ↦ (let e = itself n Less (subst (λ (m : ℕ). nat_cmp m n ≡ Less) there.2 ((cut (rising_compares xs n rises)).0 there.0 n (omega arith) before)) in cc)
      | inr after ↦ (let e = itself n Greater (subst (λ (m : ℕ). nat_cmp m n ≡ Greater) there.2 ((cut (rising_compares xs n rises)).1 there.0 n after there.1)) in cc)
    ]

-- ---- one place more

-- a builder without a free slot is taken out
pub vacant_without : (machines : List Builder) (loads : List ℕ) (ups : List Bool) (old new : List Bool) (place : ℕ) → HoldVacant machines loads ups old
    → new ≡ slice_set old place false → (IsFree machines loads ups place → ⊥) → HoldVacant machines loads ups new
vacant_without machines loads ups old new place was is taken = record {
  sized = ap length is ∙ (length-set old place false ∙ was.sized);
  each = λ p free. subst (λ (flags : List Bool). IsMember flags p) (sym is)
      (get_or-set_other old place p false false (λ same. taken (subst (λ (m : ℕ). IsFree machines loads ups m) same free)) ∙ was.each p free);
}

-- the first of rising places
pub first_is_least : (places : List ℕ) → IsStrictlyIncreasing places → AreFrom places (get_or places 0 0)
first_is_least places rising = record {
  each = λ p has.
      let least : get_or places 0 0 ≡ get_or places 0 p = get_or_default places 0 0 p (omega (arith, has.1)) in
      elim (cases_lt 0 has.0) [
        | inl later ↦
            let lt : get_or places 0 p < get_or places has.0 p = AllPairs-from_increasing places rising 0 has.0 p later has.1 in
            omega (arith, lt, has.2, least)
        | inr here ↦
            let at : has.0 ≡ 0 = omega (arith, here) in
            let same : get_or places 0 p ≡ p = subst (λ (k : ℕ). get_or places k p ≡ p) at has.2 in
            omega (arith, same, least)
      ];
}

-- the last of rising places
pub last_is_greatest : (places : List ℕ) → IsStrictlyIncreasing places → AreUpTo places (get_or places (length places - 1) 0)
last_is_greatest places rising = record {
  each = λ p has.
      let last : ℕ = length places - 1 in
      let greatest : get_or places last 0 ≡ get_or places last p = get_or_default places last 0 p (omega (arith, has.1)) in
      elim (cases_lt has.0 last) [
        | inl earlier ↦
            let lt : get_or places has.0 p < get_or places last p = AllPairs-from_increasing places rising has.0 last p earlier (omega (arith, has.1)) in
            omega (arith, lt, has.2, greatest)
        | inr here ↦
            let at : has.0 ≡ last = omega (arith, here, has.1) in
            let same : get_or places last p ≡ p = subst (λ (k : ℕ). get_or places k p ≡ p) at has.2 in
            omega (arith, same, greatest)
      ];
}

-- no member is none up to a place
pub none_up_to : (flags : List Bool) (from last : ℕ) → IsFirstFrom flags from None → IsFirstUpTo flags from last None
none_up_to flags from last none k late early member = none k late member

-- .. nor is one behind it
pub past_the_last : (flags : List Bool) (from last place : ℕ) → IsFirstFrom flags from (Some place) → last < place → IsFirstUpTo flags from last None
past_the_last flags from last place first past k late early member = first.least k late (omega (arith, early, past)) member

module _ (machines : List Builder) (loads : List ℕ) (ups : List Bool) (among : List ℕ) where
  pub looked_from : (vacant : List Bool) (from : ℕ) → HoldVacant machines loads ups vacant → AreFrom among from → AreLooked machines loads ups among vacant from []
  looked_from vacant from hold least = record {
    vacant = hold;
    rising = λ k h. absurd (omega arith);
    before = λ p has. absurd (omega (arith, has.1));
    some = λ p has. absurd (omega (arith, has.1));
    free = λ p lt has. absurd (let low = least.each p has in omega (arith, lt, low));
  }

  -- a free builder among the places that isn't before the place is not before the next that may be free
  not_between : (vacant : List Bool) (from place p : ℕ) → HoldVacant machines loads ups vacant → IsLeastFrom vacant from place → from ≤ p → p < place → IsFree machines loads ups p → ⊥
  not_between vacant from place p hold first low high free = first.least p low high (hold.each p free)

  looked_by : (vacant new : List Bool) (from place : ℕ) (old few : List ℕ) → AreLooked machines loads ups among vacant from old → IsLeastFrom vacant from place
      → HoldVacant machines loads ups new → HasLooked machines loads ups among place old few → AreLooked machines loads ups among new (place + 1) few
  looked_by vacant new from place old few was first hold (inl same) = record {
    vacant = hold;
    rising = rw same.0 was.rising;
    before = λ p has. (let lt = was.before p (rw same.0 at has) in let low = first.not_before in omega (arith, lt, low));
    some = λ p has. was.some p (rw same.0 at has);
    free = λ p lt has free. elim (cases_lt p from) [
      | inl early ↦ rw same.0 (was.free p early has free)
      | inr late ↦ elim (cases_eq p place) [
        | inl is ↦ absurd (same.1 (subst (λ (m : ℕ). Contains among m) is has) (subst (λ (m : ℕ). IsFree machines loads ups m) is free))
        | inr differ ↦ absurd (not_between vacant from place p was.vacant first late (omega (arith, lt, differ)) free)
      ]
    ];
  }
  looked_by vacant new from place old few was first hold (inr joined) = record {
    vacant = hold;
    rising = rw joined.0 (rising_on old place (λ n has. (let lt = was.before n has in let low = first.not_before in omega (arith, lt, low))) was.rising);
    before = λ p has. elim (Contains-push_cases old place p (rw joined.0 at has)) [
      | inl early ↦ (let lt = was.before p early in let low = first.not_before in omega (arith, lt, low))
      | inr is ↦ omega (arith, is)
    ];
    some = λ p has. elim (Contains-push_cases old place p (rw joined.0 at has)) [
      | inl early ↦ was.some p early
      | inr is ↦ subst (λ (m : ℕ). Contains among m) is joined.1
    ];
    free = λ p lt has free. elim (cases_lt p from) [
      | inl early ↦ rw joined.0 (Contains-append_left old (place ∷ []) p (was.free p early has free))
      | inr late ↦ elim (cases_eq p place) [
        | inl is ↦ rw (joined.0, is) (Contains-push old place)
        | inr differ ↦ absurd (not_between vacant from place p was.vacant first late (omega (arith, lt, differ)) free)
      ]
    ];
  }

  pub looked_next : (vacant new : List Bool) (from place : ℕ) (old few : List ℕ) → AreLooked machines loads ups among vacant from old → IsFirstFrom vacant from (Some place)
      → HoldVacant machines loads ups new → HasLooked machines loads ups among place old few → AreLooked machines loads ups among new (place + 1) few
  looked_next vacant new from place old few was first hold looked = looked_by vacant new from place old few was first hold looked

  -- where no other builder up to the last place may be free, the few are all that are
  pub looked_all : (vacant : List Bool) (from last : ℕ) (few : List ℕ) → AreLooked machines loads ups among vacant from few → AreUpTo among last → IsFirstUpTo vacant from last None
      → HoldFree machines loads ups among few
  looked_all vacant from last few was up_to none = record {
    some = was.some;
    free = λ p has free. elim (cases_lt p from) [
      | inl early ↦ was.free p early has free
      | inr late ↦ absurd (none p late (up_to.each p has) (was.vacant.each p free))
    ];
  }
