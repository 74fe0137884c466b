-- The derivations of each group: the list that they stand in, and the least ready one.
use Rattle.std.proofs.Common.{◌≡◌, ◌<◌, ◌+◌, ◌++◌, ◌∷◌, ◌⊎◌, [], ℕ, Bool, false, List, length, get_or, refl, ap, sym, ◌∙◌, subst, inl, inr, arith}
use Rattle.std.proofs.Math.ListN.{set, length-set}
use Rattle.std.proofs.lemmas.List.{get_or-set_same, get_or-set_other, get_or_append_left, get_or_push, length-append}
use Rattle.std.proofs.lemmas.Bool.{cases_eq, cases_lt}
use Rattle.nd_flags.specs.Members.{IsMember, IsLeastFrom}
use Rattle.nd_flags.proofs.RowFacts.{IsMember-within}
use Rattle.nd_pump.specs.Grouped.{group_in, list_of, flags_of, place_in, drv_at, IsSeated, AreSeated, AreFlagged, IsLeastReady}

-- the first flag of a group that is up stands for its least ready derivation
pub least_of : (groups places : List ℕ) (lists : List (List ℕ)) (flags : List (List Bool)) (ready : List Bool) (g k : ℕ)
    → length ready ≡ length groups → AreSeated (length groups) groups places lists → AreFlagged lists flags ready
    → IsLeastFrom (flags_of flags g) 0 k
    → IsLeastReady (record { groups = groups; ready = ready; count = length lists }) g (drv_at lists g k)
least_of groups places lists flags ready g k sized seated flagged first =
    let within : k < length (list_of lists g) = subst (λ (n : ℕ). k < n) (flagged.sized g) (IsMember-within (flags_of flags g) k first.member) in
    record {
      ready = record { group = seated.group g k within; ready = sym (flagged.same g k within) ∙ first.member };
      least = λ d before is_ready.
          let node : d < length groups = subst (λ (n : ℕ). d < n) sized (IsMember-within ready d is_ready.ready) in
          let seat = seated.seat d node in
          let p = place_in places d in
          let here : p < length (list_of lists g) = subst (λ (h : ℕ). p < length (list_of lists h)) is_ready.group seat.place in
          let there : drv_at lists g p ≡ d = subst (λ (h : ℕ). drv_at lists h p ≡ d) is_ready.group seat.there in
          let up : IsMember (flags_of flags g) p = flagged.same g p here ∙ ap (λ (e : ℕ). get_or ready e false) there ∙ is_ready.ready in
          elim (cases_lt p k) [
            | inl less ↦ first.least p (omega arith) less up
            | inr from_on ↦ elim (cases_lt k p) [
              | inl more ↦ let rises = seated.rising g k p more here in omega (arith, rises, there, before)
              | inr up_to ↦
                  let one : k ≡ p = omega arith in
                  let is : drv_at lists g k ≡ d = ap (λ (q : ℕ). drv_at lists g q) one ∙ there in
                  omega (arith, is, before)
            ]
          ];
    }

-- the lists with one more derivation at the end of that of group h
record Grows (lists new : List (List ℕ)) (h n : ℕ) : Type 0 where
  len : length new ≡ length lists
  longer : length (list_of new h) ≡ length (list_of lists h) + 1
  front : (k : ℕ) → k < length (list_of lists h) → drv_at new h k ≡ drv_at lists h k
  back : drv_at new h (length (list_of lists h)) ≡ n
  other : (g : ℕ) → (g ≡ h → ⊥) → list_of new g ≡ list_of lists g

grown : (lists new : List (List ℕ)) (h n : ℕ) → h < length lists → new ≡ set lists h (list_of lists h ++ n ∷ []) → Grows lists new h n
grown lists new h n within is =
    let row : List ℕ = list_of lists h ++ n ∷ [] in
    let here : list_of new h ≡ row = ap (λ (xs : List (List ℕ)). list_of xs h) is ∙ get_or-set_same lists h row [] within in
    record {
      len = ap (λ (xs : List (List ℕ)). length xs) is ∙ length-set lists h row;
      longer = ap (λ (xs : List ℕ). length xs) here ∙ length-append (list_of lists h) (n ∷ []);
      front = λ k before. ap (λ (xs : List ℕ). get_or xs k 0) here ∙ get_or_append_left (list_of lists h) (n ∷ []) 0 k before;
      back = ap (λ (xs : List ℕ). get_or xs (length (list_of lists h)) 0) here ∙ get_or_push (list_of lists h) n 0 (length (list_of lists h)) refl;
      other = λ g apart. ap (λ (xs : List (List ℕ)). list_of xs g) is ∙ get_or-set_other lists h g row [] apart;
    }

-- what stood in a list stands there still
stays : (lists new : List (List ℕ)) (h n g k : ℕ) → Grows lists new h n → k < length (list_of lists g)
    → (k < length (list_of new g)) × (drv_at new g k ≡ drv_at lists g k)
stays lists new h n g k grows within = elim (cases_eq g h) [
  | inl same ↦
      let before : k < length (list_of lists h) = subst (λ (j : ℕ). k < length (list_of lists j)) same within in (
        subst (λ (j : ℕ). k < length (list_of new j)) (sym same) (omega (arith, before, grows.longer)),
        subst (λ (j : ℕ). drv_at new j k ≡ drv_at lists j k) (sym same) (grows.front k before),
      )
  | inr apart ↦ (
    subst (λ (xs : List ℕ). k < length xs) (sym (grows.other g apart)) within,
    ap (λ (xs : List ℕ). get_or xs k 0) (grows.other g apart),
  )
]

-- what stands in a list stood there before, or is the new one at its end
split : (lists new : List (List ℕ)) (h n g k : ℕ) → Grows lists new h n → k < length (list_of new g)
    → ((k < length (list_of lists g)) × (drv_at new g k ≡ drv_at lists g k))
    ⊎ ((g ≡ h) × (k ≡ length (list_of lists h)) × (drv_at new g k ≡ n))
split lists new h n g k grows within = elim (cases_eq g h) [
  | inl same ↦
      let here : k < length (list_of new h) = subst (λ (j : ℕ). k < length (list_of new j)) same within in
      elim (cases_lt k (length (list_of lists h))) [
        | inl before ↦ inl (
          subst (λ (j : ℕ). k < length (list_of lists j)) (sym same) before,
          subst (λ (j : ℕ). drv_at new j k ≡ drv_at lists j k) (sym same) (grows.front k before),
        )
        | inr from_on ↦
            let last : k ≡ length (list_of lists h) = omega (arith, here, grows.longer) in
            inr (same, last, subst (λ (j : ℕ). drv_at new j k ≡ n) (sym same) (ap (λ (i : ℕ). drv_at new h i) last ∙ grows.back))
      ]
  | inr apart ↦ inl (
    subst (λ (xs : List ℕ). k < length xs) (grows.other g apart) within,
    ap (λ (xs : List ℕ). get_or xs k 0) (grows.other g apart),
  )
]

-- one more derivation stands at the end of its group's list
pub seated_more : (n : ℕ) (groups places new_places : List ℕ) (lists new : List (List ℕ))
    → length places ≡ n → group_in groups n < length lists
    → new_places ≡ places ++ length (list_of lists (group_in groups n)) ∷ []
    → new ≡ set lists (group_in groups n) (list_of lists (group_in groups n) ++ n ∷ [])
    → AreSeated n groups places lists → AreSeated (n + 1) groups new_places new
seated_more n groups places new_places lists new sized within places_are lists_are old =
    let h : ℕ = group_in groups n in
    let grows = grown lists new h n within lists_are in
    let placed : (d : ℕ) → d < n → place_in new_places d ≡ place_in places d = λ d before.
    ap (λ (xs : List ℕ). place_in xs d) places_are ∙ get_or_append_left places (length (list_of lists h) ∷ []) 0 d (omega (arith, sized, before)) in
    let last : place_in new_places n ≡ length (list_of lists h) =
    ap (λ (xs : List ℕ). place_in xs n) places_are ∙ get_or_push places (length (list_of lists h)) 0 n sized in
    record {
      seat = λ d in_range. elim (cases_lt d n) [
        | inl before ↦
            let seat = old.seat d before in
            let stay = stays lists new h n (group_in groups d) (place_in places d) grows seat.place in
            record {
              group = omega (arith, seat.group, grows.len);
              place = subst (λ (k : ℕ). k < length (list_of new (group_in groups d))) (sym (placed d before)) stay.0;
              there = ap (λ (k : ℕ). drv_at new (group_in groups d) k) (placed d before) ∙ (stay.1 ∙ seat.there);
            }
        | inr from_on ↦
            let here : d ≡ n = omega arith in
            subst (λ (e : ℕ). IsSeated groups new_places new e) (sym here) (record {
              group = omega (arith, within, grows.len);
              place = omega (arith, last, grows.longer);
              there = ap (λ (k : ℕ). drv_at new h k) last ∙ grows.back;
            })
      ];
      node = λ g k inside. elim (split lists new h n g k grows inside) [
        | inl stood ↦ omega (arith, stood.1, old.node g k stood.0)
        | inr added ↦ omega (arith, added.2)
      ];
      group = λ g k inside. elim (split lists new h n g k grows inside) [
        | inl stood ↦ ap (λ (d : ℕ). group_in groups d) stood.1 ∙ old.group g k stood.0
        | inr added ↦ ap (λ (d : ℕ). group_in groups d) added.2 ∙ sym added.0
      ];
      place = λ g k inside. elim (split lists new h n g k grows inside) [
        | inl stood ↦ ap (λ (d : ℕ). place_in new_places d) stood.1 ∙ (placed (drv_at lists g k) (old.node g k stood.0) ∙ old.place g k stood.0)
        | inr added ↦ ap (λ (d : ℕ). place_in new_places d) added.2 ∙ (last ∙ sym added.1)
      ];
      rising = λ g j k less inside. elim (split lists new h n g k grows inside) [
        | inl stood ↦
            let earlier = stays lists new h n g j grows (omega (arith, less, stood.0)) in
            omega (arith, earlier.1, stood.1, old.rising g j k less stood.0)
        | inr added ↦
            let before : j < length (list_of lists g) =
            subst (λ (i : ℕ). j < length (list_of lists i)) (sym added.0) (omega (arith, less, added.1)) in
            let earlier = stays lists new h n g j grows before in
            omega (arith, earlier.1, added.2, old.node g j before)
      ];
    }
