-- Lemmas on walks over inputs, and on the place of a node in an order with inputs first.
use Rattle.std.proofs.Common.{◌≡◌, ℕ, zero, suc, ◌+◌, ◌<◌, ◌≤◌, List, [], ◌∷◌, length, Contains, cond, get_or, true, false, Bool, eqb, sym, refl, ◌∙◌, subst, inl, inr, arith, eq-eqb, add-one}
use Rattle.std.proofs.lemmas.Bool.{cases_lt, cases_eq, ne_eqb}
use Rattle.std.proofs.lemmas.List.{get_or_past, get_or_default}
use Rattle.nd_graph.specs.Walks.{inputs_of, Walk, IsBelow, IsAcyclic, IsOrder, IsRising, place_of, PlacesFall}

-- a node that has an input is a node
pub has_row : (rows : List (List ℕ)) (d c : ℕ) → Contains (inputs_of rows d) c → d < length rows
has_row rows d c h =
    elim (cases_lt d (length rows)) [
      | inl lt ↦ lt
      | inr past ↦
          let none : inputs_of rows d ≡ [] = get_or_past rows d [] past in
          let gone : Contains [] c = subst (λ (xs : List ℕ). Contains xs c) none h in
          absurd (omega (arith, gone.1))
    ]

-- a walk goes on by one more input
pub walk_on : (rows : List (List ℕ)) (a b c n : ℕ) → Walk rows a b n → Contains (inputs_of rows b) c → Walk rows a c (suc n)
walk_on rows a b c zero w h = (c, subst (λ (x : ℕ). Contains (inputs_of rows x) c) (sym w) h, refl)
walk_on rows a b c (suc n) w h = (w.0, w.1, walk_on rows w.0 b c n w.2 h)

-- an input is below
pub input_below : (rows : List (List ℕ)) (d c : ℕ) → Contains (inputs_of rows d) c → IsBelow rows d c
input_below rows d c h = record { steps = 0; walk = (c, h, refl) }

-- what is below an input is below
pub below_input : (rows : List (List ℕ)) (d c x : ℕ) → Contains (inputs_of rows d) c → IsBelow rows c x → IsBelow rows d x
below_input rows d c x h below = record { steps = suc below.steps; walk = (c, h, below.walk) }

-- an input of what is below is below
pub below_on : (rows : List (List ℕ)) (d x c : ℕ) → IsBelow rows d x → Contains (inputs_of rows x) c → IsBelow rows d c
below_on rows d x c below h = record { steps = suc below.steps; walk = walk_on rows d x c (suc below.steps) below.walk h }

-- the place of what stands at j is at most j
pub place_of-le : (xs : List ℕ) (j d : ℕ) → j < length xs → get_or xs j 0 ≡ d → place_of xs d ≤ j
place_of-le [] j d lt is = absurd (omega (arith, lt))
place_of-le (x ∷ xs) zero d lt is = let same : eqb x d ≡ true = eq-eqb x d is in rw same (omega arith)
place_of-le (x ∷ xs) (suc j) d lt is =
    let behind = place_of-le xs j d (omega (arith, lt)) is in
    elim (eqb x d) as (λ b. cond b 0 (place_of xs d + 1) ≤ suc j) [ true ↦ omega arith | false ↦ omega arith ]

-- what is in the list stands at its place
pub place_of-at : (xs : List ℕ) (j d : ℕ) → j < length xs → get_or xs j 0 ≡ d → (place_of xs d < length xs) × (get_or xs (place_of xs d) 0 ≡ d)
place_of-at [] j d lt is = absurd (omega (arith, lt))
place_of-at (x ∷ xs) zero d lt is =
    let same : eqb x d ≡ true = eq-eqb x d is in
    let P : Bool → Type 0 = λ b. (cond b 0 (place_of xs d + 1) < suc (length xs)) × (get_or (x ∷ xs) (cond b 0 (place_of xs d + 1)) 0 ≡ d) in
    subst P (sym same) (omega arith, is)
place_of-at (x ∷ xs) (suc j) d lt is =
    let behind = place_of-at xs j d (omega (arith, lt)) is in
    let P : Bool → Type 0 = λ b. (cond b 0 (place_of xs d + 1) < suc (length xs)) × (get_or (x ∷ xs) (cond b 0 (place_of xs d + 1)) 0 ≡ d) in
    elim (cases_eq x d) [
      | inl same ↦ subst P (sym (eq-eqb x d same)) (omega arith, same)
      | inr other ↦
          subst P (sym (ne_eqb x d other)) (omega (arith, behind.0), rw (add-one (place_of xs d)) behind.1)
    ]

-- in an order with inputs first what is below a node stands before it
pub below_before : (rows : List (List ℕ)) (order : List ℕ) → IsRising rows order → (n k x : ℕ) → k < length order → Walk rows (get_or order k 0) x (suc n) → (j : ℕ) × (j < k) × (get_or order j 0 ≡ x)
below_before rows order rises zero k x lt w = rises.before k x lt (subst (λ (c : ℕ). Contains (inputs_of rows (get_or order k 0)) c) w.2 w.1)
below_before rows order rises (suc n) k x lt w =
    let at = rises.before k w.0 lt w.1 in
    let rest = below_before rows order rises n at.0 x (omega arith) (subst (λ (c : ℕ). Walk rows c x (suc n)) (sym at.2) w.2) in
    (rest.0, omega arith, rest.2)

-- no node of an order with inputs first is below itself
pub acyclic : (rows : List (List ℕ)) (order : List ℕ) → IsOrder rows order → IsAcyclic rows
acyclic rows order is = record {
  apart = λ d below.
      let row : d < length rows = has_row rows d below.walk.0 below.walk.1 in
      let at = is.full d row in
      let here : get_or order at.0 0 ≡ d = get_or_default order at.0 0 d at.1 ∙ at.2 in
      let turned = subst (λ (x : ℕ). Walk rows x d (suc below.steps)) (sym here) below.walk in
      let earlier = below_before rows order is.rises below.steps at.0 d at.1 turned in
      is.once.apart earlier.0 at.0 0 earlier.1 at.1 (earlier.2 ∙ sym here);
}

-- an input's place is lower
pub places_fall : (rows : List (List ℕ)) (order : List ℕ) → IsOrder rows order → PlacesFall rows order
places_fall rows order is = record {
  falls = λ d c row h.
      let at = is.full d row in
      let here : get_or order at.0 0 ≡ d = get_or_default order at.0 0 d at.1 ∙ at.2 in
      let place = place_of-at order at.0 d at.1 here in
      let input = subst (λ (x : ℕ). Contains (inputs_of rows x) c) (sym place.1) h in
      let earlier = is.rises.before (place_of order d) c place.0 input in
      let low = place_of-le order earlier.0 c (omega arith) earlier.2 in
      omega arith;
}

-- the places fall along any walk down
pub below_falls : (rows : List (List ℕ)) (order : List ℕ) → PlacesFall rows order → (n d x : ℕ) → Walk rows d x (suc n) → place_of order x < place_of order d
below_falls rows order fall zero d x w =
    let first = fall.falls d w.0 (has_row rows d w.0 w.1) w.1 in
    subst (λ (y : ℕ). place_of order y < place_of order d) w.2 first
below_falls rows order fall (suc n) d x w =
    let first = fall.falls d w.0 (has_row rows d w.0 w.1) w.1 in
    let rest = below_falls rows order fall n w.0 x w.2 in
    omega arith
