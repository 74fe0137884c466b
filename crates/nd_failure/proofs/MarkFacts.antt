-- What a new mark on one node leaves of what a board keeps.
use Rattle.std.proofs.Common.{◌≡◌, ◌+◌, ◌<◌, ℕ, Bool, true, false, not, cond, eqb, List, [], ◌∷◌, length, get_or, MatchBool, refl, sym, ◌∙◌, ap, subst, inl, inr, eqb-true, eq-eqb, arith}
use Rattle.std.proofs.Math.ListN.{set, length-set}
use Rattle.std.specs.List.{count_by}
use Rattle.std.proofs.lemmas.List.{get_or-set_same, get_or-set_other, get_or_past}
use Rattle.std.proofs.lemmas.Bool.{cases_eq, cases_lt, false≢true}
use Rattle.nd_graph.specs.Walks.{inputs_of}
use Rattle.nd_flags.specs.Members.{IsMember}
use Rattle.nd_failure.specs.Progress.{mark_of, HasInputsBuilt, HasFailedBelow}
use Rattle.nd_failure.specs.Kept.{is_built, AreSettled, AreCounted, AreDoomed, AreReady}
use Rattle.nd_failure.specs.declared.status.Mark.{Mark}
use Rattle.nd_failure.specs.declared.status.Mark.TheVariants.{Free, Built, Failed}
use Rattle.nd_failure.proofs.CountFacts.{true_or_false, count_by-cons_yes, count_by-cons_no, count_by-cons, count_by-same}

-- a node that isn't free is one of the nodes
pub within_if_marked : (marks : List Mark) (i : ℕ) → (mark_of marks i ≡ Free → ⊥) → i < length marks
within_if_marked marks i marked = elim (cases_lt i (length marks)) [
  | inl within ↦ within
  | inr past ↦ absurd (marked (get_or_past marks i Free past))
]

-- inputs that are built stay so where the node that is marked was none of them
pub HasInputsBuilt-set : (rows : List (List ℕ)) (marks : List Mark) (i : ℕ) (m : Mark) → (mark_of marks i ≡ Built → ⊥)
    → (d : ℕ) → HasInputsBuilt rows marks d → HasInputsBuilt rows (set marks i m) d
HasInputsBuilt-set rows marks i m unbuilt d inputs = record {
  built = λ c has. get_or-set_other marks i c m Free (λ same. unbuilt (subst (λ (n : ℕ). mark_of marks n ≡ Built) same (inputs.built c has)))
      ∙ inputs.built c has;
}

-- a mark on a node whose inputs are built, and that was not built itself
pub AreSettled-set : (rows : List (List ℕ)) (marks : List Mark) (i : ℕ) (m : Mark) → AreSettled rows marks → i < length marks
    → (mark_of marks i ≡ Built → ⊥) → HasInputsBuilt rows marks i → AreSettled rows (set marks i m)
AreSettled-set rows marks i m settled within unbuilt inputs = record {
  settled = λ d marked. elim (cases_eq d i) [
    | inl same ↦ subst (λ (n : ℕ). HasInputsBuilt rows (set marks i m) n) (sym same) (HasInputsBuilt-set rows marks i m unbuilt i inputs)
    | inr apart ↦ HasInputsBuilt-set rows marks i m unbuilt d
        (settled.settled d (λ free. marked (get_or-set_other marks i d m Free apart ∙ free)))
  ];
}

-- whether a node is built is as before where neither mark is `Built`
is_built-set : (marks : List Mark) (i : ℕ) (m : Mark) → i < length marks → is_built (mark_of marks i) ≡ false → is_built m ≡ false
    → (c : ℕ) → is_built (mark_of (set marks i m) c) ≡ is_built (mark_of marks c)
is_built-set marks i m within before after c = elim (cases_eq c i) [
  | inl same ↦ ap (λ (n : ℕ). is_built (mark_of (set marks i m) n)) same ∙ ap (λ (x : Mark). is_built x) (get_or-set_same marks i m Free within)
      ∙ after ∙ sym before ∙ ap (λ (n : ℕ). is_built (mark_of marks n)) (sym same)
  | inr apart ↦ ap (λ (x : Mark). is_built x) (get_or-set_other marks i c m Free apart)
]

-- so the counters are as before
pub AreCounted-set : (rows : List (List ℕ)) (marks : List Mark) (unbuilt : List ℕ) (i : ℕ) (m : Mark) → AreCounted rows marks unbuilt
    → i < length marks → is_built (mark_of marks i) ≡ false → is_built m ≡ false → AreCounted rows (set marks i m) unbuilt
AreCounted-set rows marks unbuilt i m counted within before after = record {
  sized = counted.sized;
  counted = λ d. counted.counted d ∙ sym (count_by-same (λ c. not (is_built (mark_of (set marks i m) c))) (λ c. not (is_built (mark_of marks c)))
      (λ c. ap not (is_built-set marks i m within before after c)) (inputs_of rows d));
}

-- where a node becomes built, each other has as many unbuilt inputs fewer as it has that node among its inputs
pub unbuilt_of-built : (marks : List Mark) (i : ℕ) → i < length marks → is_built (mark_of marks i) ≡ false → (inputs : List ℕ)
    → count_by (λ c. not (is_built (mark_of (set marks i Built) c))) inputs + count_by (eqb i) inputs
    ≡ count_by (λ c. not (is_built (mark_of marks c))) inputs
unbuilt_of-built marks i within before [] = refl
unbuilt_of-built marks i within before (c ∷ cs) =
    let after : ℕ → Bool = λ x. not (is_built (mark_of (set marks i Built) x)) in
    let was : ℕ → Bool = λ x. not (is_built (mark_of marks x)) in
    let rest = unbuilt_of-built marks i within before cs in
    elim (true_or_false (eqb i c)) [
      | inl same ↦
          let here : c ≡ i = sym (eqb-true i c same) in
          let built : after c ≡ false = ap after here ∙ ap (λ (m : Mark). not (is_built m)) (get_or-set_same marks i Built Free within) in
          let unbuilt : was c ≡ true = ap was here ∙ ap not before in
          omega (arith, rest, count_by-cons_no after c cs built, count_by-cons_yes (eqb i) c cs same, count_by-cons_yes was c cs unbuilt)
      | inr apart ↦
          let elsewhere : c ≡ i → ⊥ = λ same. false≢true (sym apart ∙ eq-eqb i c (sym same)) in
          let kept : cond (after c) 1 0 ≡ cond {A = ℕ} (was c) 1 0 =
          ap (λ (m : Mark). cond {A = ℕ} (not (is_built m)) 1 0) (get_or-set_other marks i c Built Free elsewhere) in
          omega (arith, rest, kept, count_by-cons after c cs, count_by-cons was c cs, count_by-cons_no (eqb i) c cs apart)
    ]

-- nothing fails: the same nodes have a failed one below
pub HasFailedBelow-set : (rows : List (List ℕ)) (marks : List Mark) (i : ℕ) (m : Mark) → (mark_of marks i ≡ Failed → ⊥)
    → (d : ℕ) → HasFailedBelow rows marks d → HasFailedBelow rows (set marks i m) d
HasFailedBelow-set rows marks i m sound d below = record {
  node = below.node;
  below = below.below;
  failed = get_or-set_other marks i below.node m Free
      (λ same. sound (subst (λ (n : ℕ). mark_of marks n ≡ Failed) same below.failed)) ∙ below.failed;
}

pub HasFailedBelow-set_back : (rows : List (List ℕ)) (marks : List Mark) (i : ℕ) (m : Mark) → i < length marks → (m ≡ Failed → ⊥)
    → (d : ℕ) → HasFailedBelow rows (set marks i m) d → HasFailedBelow rows marks d
HasFailedBelow-set_back rows marks i m within sound d below = record {
  node = below.node;
  below = below.below;
  failed = elim (cases_eq below.node i) [
    | inl same ↦ absurd (sound (sym (get_or-set_same marks i m Free within)
        ∙ subst (λ (n : ℕ). mark_of (set marks i m) n ≡ Failed) same below.failed))
    | inr apart ↦ sym (get_or-set_other marks i below.node m Free apart) ∙ below.failed
  ];
}

pub AreDoomed-set : (rows : List (List ℕ)) (marks : List Mark) (doomed : List Bool) (i : ℕ) (m : Mark) → AreDoomed rows marks doomed
    → i < length marks → (mark_of marks i ≡ Failed → ⊥) → (m ≡ Failed → ⊥) → AreDoomed rows (set marks i m) doomed
AreDoomed-set rows marks doomed i m known within before after = record {
  sized = known.sized;
  sound = λ d up. HasFailedBelow-set rows marks i m before d (known.sound d up);
  complete = λ d below. known.complete d (HasFailedBelow-set_back rows marks i m within after d below);
}

-- what the flag that is put tells of the new mark
put_up : (m : Mark) (n : ℕ) (up : Bool) → MatchBool up ((m ≡ Free) × (n ≡ 0)) (m ≡ Free → ⊥) → m ≡ Free → up ≡ true
put_up m n true right free = refl
put_up m n false right free = absurd (right free)

put_told : (m : Mark) (n : ℕ) (up : Bool) → MatchBool up ((m ≡ Free) × (n ≡ 0)) (m ≡ Free → ⊥) → up ≡ true → (m ≡ Free) × (n ≡ 0)
put_told m n true right is = right
put_told m n false right is = absurd (false≢true is)

-- a node is put into the ready ones where it becomes free and its inputs are built, and taken out where it isn't free
pub AreReady-put : (marks : List Mark) (unbuilt : List ℕ) (ready : List Bool) (i : ℕ) (m : Mark) (up : Bool) → AreReady marks unbuilt ready
    → i < length marks → MatchBool up ((m ≡ Free) × (get_or unbuilt i 0 ≡ 0)) (m ≡ Free → ⊥)
    → AreReady (set marks i m) unbuilt (set ready i up)
AreReady-put marks unbuilt ready i m up known within right = record {
  sized = length-set ready i up ∙ known.sized ∙ sym (length-set marks i m);
  sound = λ d member. elim (cases_eq d i) [
    | inl same ↦
        let told = put_told m (get_or unbuilt i 0) up right (sym (get_or-set_same ready i up false (omega (arith, known.sized)))
        ∙ subst (λ (n : ℕ). IsMember (set ready i up) n) same member) in
        subst (λ (n : ℕ). (mark_of (set marks i m) n ≡ Free) × (get_or unbuilt n 0 ≡ 0)) (sym same)
        (get_or-set_same marks i m Free within ∙ told.0, told.1)
    | inr apart ↦
        let was = known.sound d (sym (get_or-set_other ready i d up false apart) ∙ member) in
        (get_or-set_other marks i d m Free apart ∙ was.0, was.1)
  ];
  complete = λ d in_range free none. elim (cases_eq d i) [
    | inl same ↦ subst (λ (n : ℕ). IsMember (set ready i up) n) (sym same)
        (get_or-set_same ready i up false (omega (arith, known.sized))
        ∙ put_up m (get_or unbuilt i 0) up right (sym (get_or-set_same marks i m Free within) ∙ subst (λ (n : ℕ). mark_of (set marks i m) n ≡ Free) same free))
    | inr apart ↦ get_or-set_other ready i d up false apart
        ∙ known.complete d (omega (arith, length-set marks i m)) (sym (get_or-set_other marks i d m Free apart) ∙ free) none
  ];
}
