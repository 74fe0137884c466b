-- A pump takes the same steps wherever it begins after the same history, and each of them is legal.
use Rattle.std.proofs.Common.{◌≡◌, ◌⊎◌, ℕ, zero, suc, true, List, [], ◌∷◌, ◌++◌, reverse, refl, sym, ap, ◌∙◌, subst, arith, inl, inr, Some, append-nil, append_assoc}
use Rattle.std.specs.List.{flat_map}
use Rattle.std.proofs.lemmas.Bool.{cases_lt}
use Rattle.std.proofs.lemmas.List.{reverse-append}
use Rattle.nd_hook.specs.declared.kinds.Decision.TheVariants.{Local, Remote, NoBuilder as NobodyBuilds}
use Rattle.nd_history.specs.declared.entry.Entry.{Entry}
use Rattle.nd_history.specs.declared.entry.Entry.TheVariants.{Chosen, NoBuilder, Started, Down, Built, Failed, Stop, Drain, Enable}
use Rattle.nd_history.specs.Premises.{Premises}
use Rattle.nd_history.specs.History.{is_taken}
use Rattle.nd_history.specs.Choices.{HasDecision}
use Rattle.nd_history.specs.Legal.{IsPlaceFor, IsLeastFree, MayChoose, MayGiveUp, IsAllowed, IsLegal}
use Rattle.nd_history.specs.Pumping.{IsStepOf, AreAtRest, IsPumpStep, ArePumpSteps}
use Rattle.nd_history.proofs.OneChoice.{decision_once, best_for_once}
use Rattle.nd_history_text.specs.HistoryTexts.{line_of}
use Rattle.nd_sim.specs.Runs.{IsPumping, IsPumped}

some_drv : (a b : ℕ) → Some a ≡ Some b → a ≡ b
some_drv a b h = cc

-- ---- the step about a derivation

least_once : (past : List Entry) (m s t : ℕ) → IsLeastFree past m s → IsLeastFree past m t → s ≡ t
least_once past m s t one other =
    elim (cases_lt s t) [
      | inl lt ↦ let taken : is_taken m s past ≡ true = other.least s lt in let free = one.free in cc
      | inr ge ↦ elim (cases_lt t s) [
        | inl lt ↦ let taken : is_taken m t past ≡ true = one.least t lt in let free = other.free in cc
        | inr le ↦ omega arith
      ]
    ]

place_once : (i : Premises) (past : List Entry) (d m n : ℕ) → IsPlaceFor i past d m → IsPlaceFor i past d n → m ≡ n
place_once i past d zero zero one other = refl
place_once i past d zero (suc q) one other = let same = decision_once i past d Local (Remote other.0.place) one other.0.decided in cc
place_once i past d (suc p) zero one other = let same = decision_once i past d Local (Remote one.0.place) other one.0.decided in cc
place_once i past d (suc p) (suc q) one other = ap suc (best_for_once i past d p q one.1 other.1)

placed_somewhere : (i : Premises) (past : List Entry) (d m : ℕ) → IsPlaceFor i past d m → HasDecision i past d NobodyBuilds → ⊥
placed_somewhere i past d zero place nobody = let same = decision_once i past d Local NobodyBuilds place nobody in cc
placed_somewhere i past d (suc p) place nobody = let same = decision_once i past d (Remote place.0.place) NobodyBuilds place.0.decided nobody in cc

record IsChoice (i : Premises) (past : List Entry) (d : ℕ) (e : Entry) : Type 0 where
  machine : ℕ
  slot : ℕ
  is : e ≡ Chosen d machine slot
  may : MayChoose i past d machine slot

record IsGivenUp (i : Premises) (past : List Entry) (d : ℕ) (e : Entry) : Type 0 where
  is : e ≡ NoBuilder d
  may : MayGiveUp i past d

-- a step is a choice, or says that nothing can build the derivation
kind : (i : Premises) (past : List Entry) (d : ℕ) (e : Entry) → IsStepOf i past d e → IsChoice i past d e ⊎ IsGivenUp i past d e
kind i past d (Chosen k m s) step =
    let same = some_drv k d step.about in
    inl (record { machine = m; slot = s; is = ap (λ (x : ℕ). Chosen x m s) same; may = subst (λ (x : ℕ). MayChoose i past x m s) same step.allowed.may })
kind i past d (NoBuilder k) step =
    let same = some_drv k d step.about in
    inr (record { is = ap NoBuilder same; may = subst (λ (x : ℕ). MayGiveUp i past x) same step.allowed.may })
kind i past d (Started k paths) step = let h = step.about in cc
kind i past d (Down k) step = let h = step.about in cc
kind i past d (Built k refs) step = let h = step.about in cc
kind i past d (Failed k why) step = let h = step.about in cc
kind i past d Stop step = let h = step.about in cc
kind i past d (Drain m) step = let h = step.about in cc
kind i past d (Enable m) step = let h = step.about in cc

choice_once : (i : Premises) (past : List Entry) (d : ℕ) (e f : Entry) → IsChoice i past d e → IsChoice i past d f → e ≡ f
choice_once i past d e f one other =
    let places = place_once i past d one.machine other.machine one.may.place other.may.place in
    let slots = least_once past other.machine one.slot other.slot (subst (λ (m : ℕ). IsLeastFree past m one.slot) places one.may.slot) other.may.slot in
    let same : Chosen d one.machine one.slot ≡ Chosen d other.machine other.slot = λ j. Chosen d (places j) (slots j) in
    one.is ∙ same ∙ sym other.is

pub step_once : (i : Premises) (past : List Entry) (d : ℕ) (e f : Entry) → IsStepOf i past d e → IsStepOf i past d f → e ≡ f
step_once i past d e f one other =
    elim (kind i past d e one) [
      | inl choice ↦ elim (kind i past d f other) [
        | inl too ↦ choice_once i past d e f choice too
        | inr up ↦ absurd (placed_somewhere i past d choice.machine choice.may.place up.may.nobody)
      ]
      | inr up ↦ elim (kind i past d f other) [
        | inl choice ↦ absurd (placed_somewhere i past d choice.machine choice.may.place up.may.nobody)
        | inr too ↦ up.is ∙ sym too.is
      ]
    ]

-- ---- the first step, and all of them

pub first_once : (i : Premises) (past : List Entry) (e f : Entry) → IsPumpStep i past e → IsPumpStep i past f → e ≡ f
first_once i past e f one other =
    elim (cases_lt one.drv other.drv) [
      | inl lt ↦ absurd ((other.first one.drv lt).rests e one.step)
      | inr ge ↦ elim (cases_lt other.drv one.drv) [
        | inl lt ↦ absurd ((one.first other.drv lt).rests f other.step)
        | inr le ↦
            let same : one.drv ≡ other.drv = omega arith in
            step_once i past other.drv e f (subst (λ (d : ℕ). IsStepOf i past d e) same one.step) other.step
      ]
    ]

no_more : (i : Premises) (history : List Entry) (e : Entry) → AreAtRest i (reverse (history ++ [])) → IsPumpStep i (reverse history) e → ⊥
no_more i history e rest step =
    let still : AreAtRest i (reverse history) = subst (λ (h : List Entry). AreAtRest i (reverse h)) (append-nil history) rest in
    (still.each step.drv).rests e step.step

steps_once : (i : Premises) (history steps others : List Entry) → ArePumpSteps i history steps → ArePumpSteps i history others → AreAtRest i (reverse (history ++ steps))
    → AreAtRest i (reverse (history ++ others)) → steps ≡ others
steps_once i history [] [] one other rest too = refl
steps_once i history [] (f ∷ others) one other rest too = absurd (no_more i history f rest other.0)
steps_once i history (e ∷ steps) [] one other rest too = absurd (no_more i history e too one.0)
steps_once i history (e ∷ steps) (f ∷ others) one other rest too =
    let same = first_once i (reverse history) e f one.0 other.0 in
    let after : ArePumpSteps i (history ++ e ∷ []) others = subst (λ (x : Entry). ArePumpSteps i (history ++ x ∷ []) others) (sym same) other.1 in
    let P : List Entry → Type 0 = λ h. AreAtRest i (reverse h) in
    let Q : Entry → Type 0 = λ x. AreAtRest i (reverse (history ++ x ∷ others)) in
    let alike = steps_once i (history ++ e ∷ []) steps others one.1 after (subst P (sym (append_assoc history (e ∷ []) steps)) rest)
    (subst P (sym (append_assoc history (e ∷ []) others)) (subst Q (sym same) too)) in
    λ j. same j ∷ alike j

-- until there is none, a pump makes one history, and writes one text
pub pumped_once : (i : Premises) (old new other : List Entry) (text said : List ℕ) → IsPumped i old new text → IsPumped i old other said → (new ≡ other) × (text ≡ said)
pumped_once i old new other text said one also =
    let P : List Entry → Type 0 = λ h. AreAtRest i (reverse h) in
    let same = steps_once i old one.pumping.steps also.pumping.steps one.pumping.each also.pumping.each
    (subst P one.pumping.grown one.rest) (subst P also.pumping.grown also.rest) in (
      one.pumping.grown ∙ ap (λ (steps : List Entry). old ++ steps) same ∙ sym also.pumping.grown,
      one.pumping.lines ∙ ap (flat_map line_of) same ∙ sym also.pumping.lines,
    )

-- ---- legal histories

-- an entry more that is allowed
pub grown_legal : (i : Premises) (history : List Entry) (e : Entry) → IsAllowed i e (reverse history) → IsLegal i (reverse history) → IsLegal i (reverse (history ++ e ∷ []))
grown_legal i history e allowed legal = subst (IsLegal i) (sym (reverse-append history (e ∷ []))) (allowed, legal)

steps_legal : (i : Premises) (history steps : List Entry) → ArePumpSteps i history steps → IsLegal i (reverse history) → IsLegal i (reverse (history ++ steps))
steps_legal i history [] are legal = let P : List Entry → Type 0 = λ h. IsLegal i (reverse h) in subst P (sym (append-nil history)) legal
steps_legal i history (e ∷ steps) are legal =
    let P : List Entry → Type 0 = λ h. IsLegal i (reverse h) in
    subst P (append_assoc history (e ∷ []) steps) (steps_legal i (history ++ e ∷ []) steps are.1 (grown_legal i history e are.0.step.allowed legal))

pub pumping_legal : (i : Premises) (old new : List Entry) (text : List ℕ) → IsPumping i old new text → IsLegal i (reverse old) → IsLegal i (reverse new)
pumping_legal i old new text pumping legal =
    let P : List Entry → Type 0 = λ h. IsLegal i (reverse h) in
    subst P (sym pumping.grown) (steps_legal i old pumping.steps pumping.each legal)
