-- The dependants among the first nodes.
use Rattle.std.proofs.Common.{◌≡◌, ◌+◌, ◌<◌, ℕ, Bool, false, cond, eqb, List, [], length, Contains, All, get_or, take, sym, ◌∙◌, ap, subst, inl, inr, eqb-true, eq-eqb, arith}
use Rattle.std.specs.List.{count_by}
use Rattle.std.proofs.lemmas.List.{get_or-take, get_or_default, get_or_past, length-take-le}
use Rattle.std.proofs.lemmas.Bool.{cases_lt}
use Rattle.std.proofs.lemmas.List.Elements.{Contains-get_or}
use Rattle.nd_graph.specs.Walks.{inputs_of, AreInRange, IsOrder}
use Rattle.nd_failure.specs.Reversed.{AreReversedTo, AddsDependant}
use Rattle.nd_failure.proofs.CountFacts.{true_or_false}
use Rattle.nd_failure.proofs.SpreadFacts.{row_within}

-- unequal numbers fail the test
eqb_apart : (d n : ℕ) → (d ≡ n → ⊥) → eqb d n ≡ false
eqb_apart d n apart = elim (true_or_false (eqb d n)) [
  | inl same ↦ absurd (apart (eqb-true d n same))
  | inr different ↦ different
]

-- the first n + 1 rows have what the first n have, and the row at n
row_more : (rows : List (List ℕ)) (n c d : ℕ) → n < length rows
    → count_by (eqb c) (inputs_of (take (n + 1) rows) d)
    ≡ count_by (eqb c) (inputs_of (take n rows) d) + cond (eqb d n) (count_by (eqb c) (inputs_of rows n)) 0
row_more rows n c d within =
    let count : List ℕ → ℕ = λ xs. count_by (eqb c) xs in
    let gained : Bool → ℕ = λ b. cond b (count (inputs_of rows n)) 0 in
    elim (cases_lt d n) [
      | inl before ↦
          let more = ap count (get_or-take (n + 1) rows d [] (omega arith)) in
          let less = ap count (get_or-take n rows d [] before) in
          let none = ap gained (eqb_apart d n (λ same. omega arith)) in
          omega (arith, more, less, none)
      | inr from_on ↦
          let less = ap count (get_or_past (take n rows) d [] (omega (arith, length-take-le n rows (omega arith)))) in
          elim (cases_lt n d) [
            | inl behind ↦
                let more = ap count (get_or_past (take (n + 1) rows) d [] (omega (arith, length-take-le (n + 1) rows (omega arith)))) in
                let none = ap gained (eqb_apart d n (λ same. omega arith)) in
                omega (arith, more, less, none)
            | inr up_to ↦
                let here : d ≡ n = omega arith in
                let more = ap count (get_or-take (n + 1) rows d [] (omega arith) ∙ ap (λ (k : ℕ). inputs_of rows k) here) in
                let some = ap gained (eq-eqb d n here) in
                omega (arith, more, less, some)
          ]
    ]

-- one more row whose node was added to the lists of its inputs
pub AreReversedTo-more : (n : ℕ) (rows old new : List (List ℕ)) (inputs : List ℕ) → AreReversedTo n rows old → n < length rows
    → inputs ≡ inputs_of rows n → AddsDependant n inputs old new → AreReversedTo (n + 1) rows new
AreReversedTo-more n rows old new inputs before within are adds = record {
  sized = adds.sized ∙ before.sized;
  same = λ c. record {
    same = λ d. adds.counted c d ∙ ap (λ (m : ℕ). m + cond (eqb d n) (count_by (eqb c) inputs) 0) ((before.same c).same d)
        ∙ ap (λ (xs : List ℕ). count_by (eqb c) (inputs_of (take n rows) d) + cond (eqb d n) (count_by (eqb c) xs) 0) are
        ∙ sym (row_more rows n c d within);
  };
}

-- each input lies in range
pub row_in_range : (rows : List (List ℕ)) (n : ℕ) (inputs : List ℕ) (sized : ℕ) → AreInRange rows → inputs ≡ inputs_of rows n
    → sized ≡ length rows → All (λ c. c < sized) inputs
row_in_range rows n inputs sized ranged are is = λ k d within.
    subst (λ (m : ℕ). get_or inputs k d < m) (sym is)
    (ranged.ranged n (get_or inputs k d) (subst (λ (xs : List ℕ). Contains xs (get_or inputs k d)) are (Contains-get_or inputs k d within)))

-- in a graph with an order, inputs first, each input is a node
pub in_range_of_order : (rows : List (List ℕ)) (order : List ℕ) → IsOrder rows order → AreInRange rows
in_range_of_order rows order is = record {
  ranged = λ d c has.
      let at = is.full d (row_within rows d c has) in
      let before = is.rises.before at.0 c at.1 (subst (λ (n : ℕ). Contains (inputs_of rows n) c) (sym (at_default at.0 d at.1 at.2)) has) in
      is.within c (subst (λ (n : ℕ). Contains order n) before.2 (Contains-get_or order before.0 0 (omega (arith, before.1))));
}
  where
    at_default : (k d : ℕ) → k < length order → get_or order k d ≡ d → get_or order k 0 ≡ d
    at_default k d within same = get_or_default order k 0 d within ∙ same
