-- The walk up from the inputs, and the counts of a board that searches.
use Rattle.std.proofs.Common.{◌≡◌, ◌+◌, ◌<◌, ◌≤◌, ℕ, Bool, true, false, ◌⊎◌, List, [], ◌∷◌, ◌++◌, length, Contains, All, get_or, take, MatchBool, refl, sym, ◌∙◌, subst, inl, inr, arith}
use Rattle.std.proofs.Math.ListN.{set, length-set}
use Rattle.std.proofs.Math.Seq.{get_or-append_seam}
use Rattle.std.proofs.lemmas.List.{get_or-set_same, get_or-set_other, get_or_append_left, get_or_default, take_more}
use Rattle.std.proofs.lemmas.List.Elements.{Contains-get_or, Contains-push_cases}
use Rattle.std.proofs.lemmas.Bool.{cases_eq, cases_lt}
use Rattle.nd_graph.specs.Walks.{inputs_of, IsOrder}
use Rattle.nd_flags.specs.Members.{IsMember}
use Rattle.nd_failure.specs.Progress.{Progress, mark_of, HasFailedBelow, IsReady}
use Rattle.nd_failure.specs.Statuses.{HasStatus}
use Rattle.nd_failure.specs.Kept.{AreDoomed}
use Rattle.nd_failure.specs.Plain.{HasFailedInput, AreBuilt, AreSound, AreDoomedTo}
use Rattle.nd_failure.specs.declared.status.Mark.{Mark}
use Rattle.nd_failure.specs.declared.status.Mark.TheVariants.{Free, Leased, Built, Failed}
use Rattle.nd_failure.specs.declared.status.Status.{Status}
use Rattle.nd_failure.specs.declared.status.Status.TheVariants as status
use Rattle.nd_failure.proofs.BelowFacts.{HasFailedBelow-input, HasFailedBelow-step, HasFailedBelow-cases}
use Rattle.nd_failure.proofs.MarkFacts.{HasFailedBelow-set}
use Rattle.nd_failure.proofs.SpreadFacts.{row_within}
use Rattle.nd_failure.proofs.EdgeFacts.{in_range_of_order, row_in_range}

-- one more input that is built
pub AreBuilt-more : (inputs : List ℕ) (marks : List Mark) (i : ℕ) → i < length inputs → AreBuilt (take i inputs) marks
    → mark_of marks (get_or inputs i 0) ≡ Built → AreBuilt (take (i + 1) inputs) marks
AreBuilt-more inputs marks i within before here =
    subst (λ (xs : List ℕ). AreBuilt xs marks) (sym (take_more inputs i 0 within))
    (record {
      built = λ c has. elim (Contains-push_cases (take i inputs) (get_or inputs i 0) c has) [
        | inl earlier ↦ before.built c earlier
        | inr same ↦ subst (λ (n : ℕ). mark_of marks n ≡ Built) same here
      ];
    })

-- the nodes of an order are nodes
pub order_within : (rows : List (List ℕ)) (order : List ℕ) (k : ℕ) → IsOrder rows order → k < length order → get_or order k 0 < length rows
order_within rows order k is within = is.within (get_or order k 0) (Contains-get_or order k 0 within)

-- and so are their inputs
pub order_inputs_within : (rows : List (List ℕ)) (order : List ℕ) (node : ℕ) (inputs : List ℕ) (n : ℕ) → IsOrder rows order
    → inputs ≡ inputs_of rows node → n ≡ length rows → All (λ c. c < n) inputs
order_inputs_within rows order node inputs n is are sized = row_in_range rows node inputs n (in_range_of_order rows order is) are sized

-- an input that has failed, or that has a failed node below, is a failed node below
below_from_input : (rows : List (List ℕ)) (marks : List Mark) (doomed : List Bool) (d : ℕ) → AreSound rows marks doomed
    → HasFailedInput (inputs_of rows d) marks doomed → HasFailedBelow rows marks d
below_from_input rows marks doomed d known some = elim some.failed [
  | inl failed ↦ HasFailedBelow-input rows marks d some.input some.has failed
  | inr member ↦ HasFailedBelow-step rows marks d some.input some.has (known.sound some.input member)
]

-- a node at k of the order that has a failed one below has a failed input
input_from_below : (rows : List (List ℕ)) (order : List ℕ) (marks : List Mark) (doomed : List Bool) (k : ℕ) → IsOrder rows order
    → k < length order → AreDoomedTo k order rows marks doomed → HasFailedBelow rows marks (get_or order k 0)
    → HasFailedInput (inputs_of rows (get_or order k 0)) marks doomed
input_from_below rows order marks doomed k is within known below =
    let first = HasFailedBelow-cases rows marks (get_or order k 0) below in
    let place = is.rises.before k first.0 within first.1 in
    record {
      input = first.0;
      has = first.1;
      failed = elim first.2 [
        | inl failed ↦ inl failed
        | inr further ↦ inr (subst (λ (n : ℕ). IsMember doomed n) place.2
            (known.complete place.0 place.1 (subst (λ (n : ℕ). HasFailedBelow rows marks n) (sym place.2) further)))
      ];
    }

-- no node seen yet
pub AreDoomedTo-none : (order : List ℕ) (rows : List (List ℕ)) (marks : List Mark) (doomed : List Bool) → AreSound rows marks doomed
    → AreDoomedTo 0 order rows marks doomed
AreDoomedTo-none order rows marks doomed known = record { sound = known; complete = λ k before below. absurd (omega (arith, before)) }

-- one more node of the order, which is put into the set where it has a failed input
pub AreDoomedTo-more : (order : List ℕ) (rows : List (List ℕ)) (marks : List Mark) (mid new : List Bool) (inputs : List ℕ) (k : ℕ) → IsOrder rows order
    → k < length order → AreDoomedTo k order rows marks mid → inputs ≡ inputs_of rows (get_or order k 0)
    → (HasFailedInput inputs marks mid × (new ≡ set mid (get_or order k 0) true)) ⊎ ((HasFailedInput inputs marks mid → ⊥) × (new ≡ mid))
    → AreDoomedTo (k + 1) order rows marks new
AreDoomedTo-more order rows marks mid new inputs k is within known are did = elim did [
  | inl put ↦ subst (λ (xs : List Bool). AreDoomedTo (k + 1) order rows marks xs) (sym put.1) (put_one (at put.0))
  | inr kept ↦ subst (λ (xs : List Bool). AreDoomedTo (k + 1) order rows marks xs) (sym kept.1) (record {
    sound = known.sound;
    complete = λ j before below. elim (cases_lt j k) [
      | inl earlier ↦ known.complete j earlier below
      | inr here ↦
          let same : j ≡ k = omega arith in
          absurd (kept.0 (back (input_from_below rows order marks mid k is within known
          (subst (λ (n : ℕ). HasFailedBelow rows marks (get_or order n 0)) same below))))
    ];
  })
]
  where
    at : HasFailedInput inputs marks mid → HasFailedInput (inputs_of rows (get_or order k 0)) marks mid
    at some = subst (λ (xs : List ℕ). HasFailedInput xs marks mid) are some

    back : HasFailedInput (inputs_of rows (get_or order k 0)) marks mid → HasFailedInput inputs marks mid
    back some = subst (λ (xs : List ℕ). HasFailedInput xs marks mid) (sym are) some

    in_set : get_or order k 0 < length mid
    in_set = subst (λ (n : ℕ). get_or order k 0 < n) (sym known.sound.sized) (order_within rows order k is within)

    put_keeps : (x : ℕ) → IsMember mid x → IsMember (set mid (get_or order k 0) true) x
    put_keeps x member = elim (cases_eq x (get_or order k 0)) [
      | inl same ↦ subst (λ (n : ℕ). IsMember (set mid (get_or order k 0) true) n) (sym same)
          (get_or-set_same mid (get_or order k 0) true false in_set)
      | inr apart ↦ get_or-set_other mid (get_or order k 0) x true false apart ∙ member
    ]

    put_one : HasFailedInput (inputs_of rows (get_or order k 0)) marks mid → AreDoomedTo (k + 1) order rows marks (set mid (get_or order k 0) true)
    put_one some = record {
      sound = record {
        sized = length-set mid (get_or order k 0) true ∙ known.sound.sized;
        sound = λ d member. elim (cases_eq d (get_or order k 0)) [
          | inl same ↦ subst (λ (n : ℕ). HasFailedBelow rows marks n) (sym same) (below_from_input rows marks mid (get_or order k 0) known.sound some)
          | inr apart ↦ known.sound.sound d (sym (get_or-set_other mid (get_or order k 0) d true false apart) ∙ member)
        ];
      };
      complete = λ j before below. elim (cases_lt j k) [
        | inl earlier ↦ put_keeps (get_or order j 0) (known.complete j earlier below)
        | inr here ↦
            let same : j ≡ k = omega arith in
            subst (λ (n : ℕ). IsMember (set mid (get_or order k 0) true) (get_or order n 0)) (sym same)
            (get_or-set_same mid (get_or order k 0) true false in_set)
      ];
    }

-- with the whole order seen, the set is known
pub AreDoomed-all : (order : List ℕ) (rows : List (List ℕ)) (marks : List Mark) (doomed : List Bool) (n : ℕ) → IsOrder rows order
    → length order ≤ n → AreDoomedTo n order rows marks doomed → AreDoomed rows marks doomed
AreDoomed-all order rows marks doomed n is whole known = record {
  sized = known.sound.sized;
  sound = known.sound.sound;
  complete = λ d below.
      let at = is.full d (row_within rows d below.below.walk.0 below.below.walk.1) in
      let here : get_or order at.0 0 ≡ d = get_or_default order at.0 0 d at.1 ∙ at.2 in
      let before : at.0 < n = omega (arith, at.1) in
      subst (λ (x : ℕ). IsMember doomed x) here
      (known.complete at.0 before (subst (λ (x : ℕ). HasFailedBelow rows marks x) (sym here) below));
}

-- what had a failed node below has one where another node fails
pub AreSound-failed : (rows : List (List ℕ)) (marks : List Mark) (doomed : List Bool) (i : ℕ) → AreDoomed rows marks doomed
    → (mark_of marks i ≡ Failed → ⊥) → AreSound rows (set marks i Failed) doomed
AreSound-failed rows marks doomed i known sound = record {
  sized = known.sized;
  sound = λ d member. HasFailedBelow-set rows marks i Failed sound d (known.sound d member);
}

-- one more status
pub statuses_push : (p : Progress) (statuses : List Status) (n : ℕ) (s : Status) → length statuses ≡ n
    → ((d : ℕ) → d < n → HasStatus p d (get_or statuses d status.Waiting)) → HasStatus p n s
    → (d : ℕ) → d < n + 1 → HasStatus p d (get_or (statuses ++ s ∷ []) d status.Waiting)
statuses_push p statuses n s sized known here d before = elim (cases_lt d n) [
  | inl earlier ↦ subst (λ (t : Status). HasStatus p d t)
      (sym (get_or_append_left statuses (s ∷ []) status.Waiting d (omega (arith, sized)))) (known d earlier)
  | inr last ↦
      let same : d ≡ length statuses = omega (arith, sized) in
      subst (λ (k : ℕ). HasStatus p k (get_or (statuses ++ s ∷ []) k status.Waiting)) (sym same)
      (subst (λ (t : Status). HasStatus p (length statuses) t) (sym (get_or-append_seam statuses s [] status.Waiting))
      (subst (λ (k : ℕ). HasStatus p k s) (sym sized) here))
]

-- a node that doesn't wait isn't ready
pub not_ready : (p : Progress) (d : ℕ) (s : Status) → HasStatus p d s → (s ≡ status.Waiting → ⊥) → IsReady p d → ⊥
not_ready p d status.Waiting has apart ready = apart refl
not_ready p d status.Leased has apart ready = let both : Leased ≡ Free = sym has ∙ ready.waiting.0 in cc
not_ready p d status.Built has apart ready = let both : Built ≡ Free = sym has ∙ ready.waiting.0 in cc
not_ready p d status.Failed has apart ready = let both : Failed ≡ Free = sym has ∙ ready.waiting.0 in cc
not_ready p d status.Cancelled has apart ready = elim has.1 [
  | inl stopped ↦ ready.waiting.1 stopped
  | inr below ↦ ready.waiting.2 below
]

-- whether a waiting node is ready: whether its inputs are built
pub ready_told : (p : Progress) (d : ℕ) (inputs : List ℕ) (marks : List Mark) (told : Bool) → d < length p.inputs → HasStatus p d status.Waiting
    → inputs ≡ inputs_of p.inputs d → marks ≡ p.marks → MatchBool told (AreBuilt inputs marks) (AreBuilt inputs marks → ⊥)
    → MatchBool told (IsReady p d) (IsReady p d → ⊥)
ready_told p d inputs marks true within waiting are marks_are built = record {
  node = within;
  waiting = waiting;
  inputs_built = record {
    built = λ c has. subst (λ (xs : List Mark). mark_of xs c ≡ Built) marks_are
        (built.built c (subst (λ (xs : List ℕ). Contains xs c) (sym are) has));
  };
}
ready_told p d inputs marks false within waiting are marks_are unbuilt = λ ready. unbuilt (record {
  built = λ c has. subst (λ (xs : List Mark). mark_of xs c ≡ Built) (sym marks_are)
      (ready.inputs_built.built c (subst (λ (xs : List ℕ). Contains xs c) are has));
})
