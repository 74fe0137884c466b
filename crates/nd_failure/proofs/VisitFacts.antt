-- One more node visited, in the words of a loop over a slice.
use Rattle.std.proofs.Common.{◌≡◌, ◌+◌, ◌<◌, ◌≤◌, ℕ, Bool, true, false, not, cond, ◌⊎◌, eqb, List, [], ◌∷◌, ◌++◌, length, Contains, get_or, take, replicate, refl, sym, ◌∙◌, ap, subst, inl, inr, eq-eqb, arith}
use Rattle.std.specs.List.{count_by}
use Rattle.std.proofs.Math.ListN.{set, length-set}
use Rattle.std.proofs.lemmas.List.{get_or-set_same, get_or-set_other, take_more, get_or_past, get_or-replicate, length-replicate}
use Rattle.std.proofs.lemmas.List.Elements.{Contains-push, Contains-push_cases, Contains-append_left}
use Rattle.std.proofs.lemmas.List.Sums.{sum_by-set, count_by-le-length, count_by_more_yes, sum_by-take-le}
use Rattle.std.proofs.lemmas.Bool.{cases_eq, cases_lt, false≢true}
use Rattle.nd_flags.specs.Members.{IsMember}
use Rattle.nd_failure.specs.Spread.{Visited, size_of}
use Rattle.nd_failure.specs.Kept.{AreWoken, AreZeroTo}
use Rattle.nd_failure.proofs.SpreadFacts.{Visited-again, Visited-more}

pub false_if_not : (b : Bool) → not b ≡ true → b ≡ false
false_if_not true is = cc
false_if_not false is = refl

pub true_if_not_not : (b : Bool) → not b ≡ false → b ≡ true
true_if_not_not true is = refl
true_if_not_not false is = cc

-- a set gains a member
pub size_of-put : (flags : List Bool) (d : ℕ) → d < length flags → get_or flags d false ≡ false → size_of (set flags d true) ≡ size_of flags + 1
size_of-put flags d within down =
    omega (arith, sum_by-set (λ (up : Bool). cond up 1 0) flags d true false within, ap (λ (up : Bool). cond {A = ℕ} up 1 0) down)

-- a set that lacks a node isn't full
pub size_of-less : (flags : List Bool) (d : ℕ) → d < length flags → get_or flags d false ≡ false → size_of flags < length flags
size_of-less flags d within down =
    omega (arith, size_of-put flags d within down, count_by-le-length (λ (up : Bool). up) (set flags d true), length-set flags d true)

pub size_of-le : (flags : List Bool) → size_of flags ≤ length flags
size_of-le flags = count_by-le-length (λ (up : Bool). up) flags

pub visited_again : (nodes : List ℕ) (i : ℕ) (old new mid : List Bool) (work after mid_work : List ℕ) → i < length nodes
    → Visited (take i nodes) old mid work mid_work → get_or mid (get_or nodes i 0) false ≡ true → new ≡ mid → after ≡ mid_work
    → Visited (take (i + 1) nodes) old new work after
visited_again nodes i old new mid work after mid_work within visited member is work_is =
    subst (λ (from : List ℕ). Visited from old new work after) (sym (take_more nodes i 0 within))
    (subst (λ (xs : List Bool). Visited (take i nodes ++ get_or nodes i 0 ∷ []) old xs work after) (sym is)
    (subst (λ (xs : List ℕ). Visited (take i nodes ++ get_or nodes i 0 ∷ []) old mid work xs) (sym work_is)
    (Visited-again (take i nodes) old mid work mid_work (get_or nodes i 0) visited member)))

pub visited_more : (nodes : List ℕ) (i : ℕ) (old new mid : List Bool) (work after mid_work : List ℕ) → i < length nodes
    → Visited (take i nodes) old mid work mid_work → get_or nodes i 0 < length mid → new ≡ set mid (get_or nodes i 0) true
    → after ≡ mid_work ++ get_or nodes i 0 ∷ [] → Visited (take (i + 1) nodes) old new work after
visited_more nodes i old new mid work after mid_work within visited in_range is work_is =
    subst (λ (from : List ℕ). Visited from old new work after) (sym (take_more nodes i 0 within))
    (subst (λ (xs : List Bool). Visited (take i nodes ++ get_or nodes i 0 ∷ []) old xs work after) (sym is)
    (subst (λ (xs : List ℕ). Visited (take i nodes ++ get_or nodes i 0 ∷ []) old (set mid (get_or nodes i 0) true) work xs) (sym work_is)
    (Visited-more (take i nodes) old mid work mid_work (get_or nodes i 0) visited in_range)))

-- a node that stands at i is counted before i + 1
pub counted_before : (nodes : List ℕ) (i : ℕ) → i < length nodes
    → count_by (eqb (get_or nodes i 0)) (take i nodes) < count_by (eqb (get_or nodes i 0)) nodes
counted_before nodes i within =
    let node = get_or nodes i 0 in
    omega (
      arith,
      count_by_more_yes (eqb node) nodes i 0 within (eq-eqb node node refl),
      sum_by-take-le (λ (x : ℕ). cond (eqb node x) 1 0) nodes (i + 1),
    )

-- one more node that is woken where its counter is 0
pub AreWoken-more : (nodes unbuilt : List ℕ) (i : ℕ) (old mid new : List Bool) → i < length nodes → AreWoken (take i nodes) unbuilt old mid
    → get_or nodes i 0 < length mid
    → ((get_or unbuilt (get_or nodes i 0) 0 ≡ 0) × (new ≡ set mid (get_or nodes i 0) true))
    ⊎ ((get_or unbuilt (get_or nodes i 0) 0 ≡ 0 → ⊥) × (new ≡ mid))
    → AreWoken (take (i + 1) nodes) unbuilt old new
AreWoken-more nodes unbuilt i old mid new within woken in_range did =
    let node = get_or nodes i 0 in
    subst (λ (from : List ℕ). AreWoken from unbuilt old new) (sym (take_more nodes i 0 within))
    (elim did [
      | inl put ↦ subst (λ (xs : List Bool). AreWoken (take i nodes ++ node ∷ []) unbuilt old xs) (sym put.1) (woken_put (take i nodes) node woken in_range put.0)
      | inr kept ↦ subst (λ (xs : List Bool). AreWoken (take i nodes ++ node ∷ []) unbuilt old xs) (sym kept.1) (woken_kept (take i nodes) node woken kept.0)
    ])
  where
    put_keeps : (node x : ℕ) → node < length mid → IsMember mid x → IsMember (set mid node true) x
    put_keeps node x within_mid member = elim (cases_eq x node) [
      | inl same ↦ subst (λ (n : ℕ). IsMember (set mid node true) n) (sym same) (get_or-set_same mid node true false within_mid)
      | inr apart ↦ get_or-set_other mid node x true false apart ∙ member
    ]

    woken_put : (from : List ℕ) (node : ℕ) → AreWoken from unbuilt old mid → node < length mid → get_or unbuilt node 0 ≡ 0
        → AreWoken (from ++ node ∷ []) unbuilt old (set mid node true)
    woken_put from node before within_mid none = record {
      sized = length-set mid node true ∙ before.sized;
      still = λ d was. put_keeps node d within_mid (before.still d was);
      woken = λ d has zero_left. elim (Contains-push_cases from node d has) [
        | inl earlier ↦ put_keeps node d within_mid (before.woken d earlier zero_left)
        | inr same ↦ subst (λ (n : ℕ). IsMember (set mid node true) n) same (get_or-set_same mid node true false within_mid)
      ];
      sound = λ d member. elim (cases_eq d node) [
        | inl same ↦ inr (subst (λ (n : ℕ). Contains (from ++ node ∷ []) n × (get_or unbuilt n 0 ≡ 0)) (sym same) (Contains-push from node, none))
        | inr apart ↦ elim (before.sound d (sym (get_or-set_other mid node d true false apart) ∙ member)) [
          | inl was ↦ inl was
          | inr found ↦ inr (Contains-append_left from (node ∷ []) d found.0, found.1)
        ]
      ];
    }

    woken_kept : (from : List ℕ) (node : ℕ) → AreWoken from unbuilt old mid → (get_or unbuilt node 0 ≡ 0 → ⊥)
        → AreWoken (from ++ node ∷ []) unbuilt old mid
    woken_kept from node before some = record {
      sized = before.sized;
      still = before.still;
      woken = λ d has zero_left. elim (Contains-push_cases from node d has) [
        | inl earlier ↦ before.woken d earlier zero_left
        | inr same ↦ absurd (some (subst (λ (n : ℕ). get_or unbuilt n 0 ≡ 0) (sym same) zero_left))
      ];
      sound = λ d member. elim (before.sound d member) [
        | inl was ↦ inl was
        | inr found ↦ inr (Contains-append_left from (node ∷ []) d found.0, found.1)
      ];
    }

-- a list of no length has no item
pub none_from_length : (xs : List ℕ) → length xs ≡ 0 → xs ≡ []
none_from_length [] none = refl
none_from_length (x ∷ xs) none = absurd (omega arith)

-- no node seen yet
pub AreZeroTo-none : (unbuilt : List ℕ) (n : ℕ) → n ≡ length unbuilt → AreZeroTo 0 unbuilt (replicate n false)
AreZeroTo-none unbuilt n sized = record {
  sized = length-replicate n false ∙ sized;
  sound = λ d member. absurd (none d member);
  complete = λ d before none_left. absurd (omega (arith, before));
}
  where
    none : (d : ℕ) → IsMember (replicate n false) d → ⊥
    none d member = elim (cases_lt d n) [
      | inl within ↦ false≢true (sym (get_or-replicate n d false false within) ∙ member)
      | inr past ↦ false≢true (sym (get_or_past (replicate n false) d false (omega (arith, length-replicate n false))) ∙ member)
    ]

-- one more node, which is put into the set where its counter is 0
pub AreZeroTo-more : (unbuilt : List ℕ) (node : ℕ) (mid new : List Bool) → AreZeroTo node unbuilt mid → node < length unbuilt
    → ((get_or unbuilt node 0 ≡ 0) × (new ≡ set mid node true)) ⊎ ((get_or unbuilt node 0 ≡ 0 → ⊥) × (new ≡ mid))
    → AreZeroTo (node + 1) unbuilt new
AreZeroTo-more unbuilt node mid new before within did = elim did [
  | inl put ↦ subst (λ (xs : List Bool). AreZeroTo (node + 1) unbuilt xs) (sym put.1) (record {
    sized = length-set mid node true ∙ before.sized;
    sound = λ d member. elim (cases_eq d node) [
      | inl same ↦ subst (λ (n : ℕ). get_or unbuilt n 0 ≡ 0) (sym same) put.0
      | inr apart ↦ before.sound d (sym (get_or-set_other mid node d true false apart) ∙ member)
    ];
    complete = λ d seen none_left. elim (cases_eq d node) [
      | inl same ↦ subst (λ (n : ℕ). IsMember (set mid node true) n) (sym same)
          (get_or-set_same mid node true false (omega (arith, before.sized)))
      | inr apart ↦ get_or-set_other mid node d true false apart ∙ before.complete d (omega (arith, seen)) none_left
    ];
  })
  | inr kept ↦ subst (λ (xs : List Bool). AreZeroTo (node + 1) unbuilt xs) (sym kept.1) (record {
    sized = before.sized;
    sound = before.sound;
    complete = λ d seen none_left. elim (cases_eq d node) [
      | inl same ↦ absurd (kept.0 (subst (λ (n : ℕ). get_or unbuilt n 0 ≡ 0) same none_left))
      | inr apart ↦ before.complete d (omega (arith, seen)) none_left
    ];
  })
]
