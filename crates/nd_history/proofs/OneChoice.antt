-- There is one best machine, one reply and one decision.
use Rattle.std.proofs.Common.{◌≡◌, ◌⊎◌, ℕ, ◌+◌, ◌*◌, ◌<◌, ◌↔◌, Bool, true, false, ◌&&◌, if◌then◌else◌, List, [], length, refl, sym, ap, ◌∙◌, subst, arith, inl, inr, Some, slice_get}
use Rattle.std.specs.Bool.{MatchBool, IsTrue}
use Rattle.std.proofs.lemmas.Bool.{cases_eq}
use Rattle.std.proofs.lemmas.List.FromFn.{get_or-map-range_with_len}
use Rattle.nd_machines.specs.Builders.{Builder}
use Rattle.nd_eligible.specs.declared.need.Need.{Need}
use Rattle.nd_eligible.specs.Eligibility.{IsEligibleAt}
use Rattle.nd_choose.specs.Best.{jobs_at, load_at, speed_at, IsBest}
use Rattle.nd_hook.specs.Replies.{IsReply}
use Rattle.nd_hook.specs.Decisions.{IsDecision, decision_after, decision_at_home}
use Rattle.nd_hook.specs.declared.kinds.Reply.{Reply}
use Rattle.nd_hook.specs.declared.kinds.Reply.TheVariants.{Accept, Postpone, Decline, DeclinePermanently}
use Rattle.nd_hook.specs.declared.kinds.Decision.{Decision}
use Rattle.nd_hook.specs.declared.kinds.Decision.TheVariants.{Local, Remote, Wait}
use Rattle.nd_history.specs.declared.entry.Entry.{Entry}
use Rattle.nd_history.specs.Premises.{Premises}
use Rattle.nd_history.specs.History.{load}
use Rattle.nd_history.specs.Choices.{loads_of, ups_of, IsLocal, IsLocalFree, HasDecision, IsBestFor}

no_two : (a b s t p q : ℕ) → ((a < b) ⊎ ((a ≡ b) × (t < s))) ⊎ ((a ≡ b) × (s ≡ t) × (p < q)) → ((b < a) ⊎ ((b ≡ a) × (s < t))) ⊎ ((b ≡ a) × (t ≡ s) × (q < p)) → ⊥
no_two a b s t p q (inl (inl x)) (inl (inl y)) = omega arith
no_two a b s t p q (inl (inl x)) (inl (inr y)) = omega arith
no_two a b s t p q (inl (inl x)) (inr y) = omega arith
no_two a b s t p q (inl (inr x)) (inl (inl y)) = omega arith
no_two a b s t p q (inl (inr x)) (inl (inr y)) = omega arith
no_two a b s t p q (inl (inr x)) (inr y) = omega arith
no_two a b s t p q (inr x) (inl (inl y)) = omega arith
no_two a b s t p q (inr x) (inl (inr y)) = omega arith
no_two a b s t p q (inr x) (inr y) = omega arith

-- there is one best machine
pub best_once : (machines : List Builder) (loads : List ℕ) (ups : List Bool) (M : ℕ → Type 0) (p q : ℕ) → IsBest machines loads ups M p → IsBest machines loads ups M q → p ≡ q
best_once machines loads ups M p q one other =
    elim (cases_eq p q) [
      | inl same ↦ same
      | inr apart ↦
          absurd (no_two (load_at loads p * speed_at machines q) (load_at loads q * speed_at machines p) (speed_at machines p) (speed_at machines q) p q
          (one.first q other.candidate (λ e. apart (sym e)))
          (other.first p one.candidate apart))
    ]

-- no machine of an empty list is eligible
none_meant : (machines : List Builder) (need : Need) (p : ℕ) → machines ≡ [] → IsEligibleAt machines need p → ⊥
none_meant machines need p none h = let P : List Builder → Type 0 = λ ms. IsEligibleAt ms need p in subst P none h

-- there is one reply
pub reply_once : (machines : List Builder) (loads : List ℕ) (ups : List Bool) (need : Need) (free : Bool) (r s : Reply) → IsReply machines loads ups (IsEligibleAt machines need) free r → IsReply machines loads ups (IsEligibleAt machines need) free s → r ≡ s
reply_once machines loads ups need free DeclinePermanently DeclinePermanently h k = refl
reply_once machines loads ups need free DeclinePermanently (Accept q) h k = absurd (none_meant machines need q h k.candidate.meant)
reply_once machines loads ups need free DeclinePermanently Postpone h k = absurd (none_meant machines need k.1.place h k.1.meant)
reply_once machines loads ups need free DeclinePermanently Decline h k = let n : length machines ≡ 0 = ap length h in absurd (omega arith)
reply_once machines loads ups need free (Accept p) DeclinePermanently h k = absurd (none_meant machines need p k h.candidate.meant)
reply_once machines loads ups need free (Accept p) (Accept q) h k = ap Accept (best_once machines loads ups (IsEligibleAt machines need) p q h k)
reply_once machines loads ups need free (Accept p) Postpone h k = absurd (k.0 p h.candidate)
reply_once machines loads ups need free (Accept p) Decline h k = absurd (k.1 p h.candidate)
reply_once machines loads ups need free Postpone DeclinePermanently h k = absurd (none_meant machines need h.1.place k h.1.meant)
reply_once machines loads ups need free Postpone (Accept q) h k = absurd (h.0 q k.candidate)
reply_once machines loads ups need free Postpone Postpone h k = refl
reply_once machines loads ups need free Postpone Decline h k = elim k.2 [ inl none ↦ absurd (none h.1) | inr is ↦ let no_way : ⊥ = cc in absurd no_way ]
reply_once machines loads ups need free Decline DeclinePermanently h k = let n : length machines ≡ 0 = ap length k in absurd (omega arith)
reply_once machines loads ups need free Decline (Accept q) h k = absurd (h.1 q k.candidate)
reply_once machines loads ups need free Decline Postpone h k = elim h.2 [ inl none ↦ absurd (none k.1) | inr is ↦ let no_way : ⊥ = cc in absurd no_way ]
reply_once machines loads ups need free Decline Decline h k = refl

decided_once : (b : Bool) (home : Decision) (machines : List Builder) (loads : List ℕ) (ups : List Bool) (need : Need) (loc free : Bool) (x y : Decision) → MatchBool b (x ≡ home) ((r : Reply) × IsReply machines loads ups (IsEligibleAt machines need) free r × (x ≡ decision_after r loc free)) → MatchBool b (y ≡ home) ((r : Reply) × IsReply machines loads ups (IsEligibleAt machines need) free r × (y ≡ decision_after r loc free)) → x ≡ y
decided_once true home machines loads ups need loc free x y h k = h ∙ sym k
decided_once false home machines loads ups need loc free x y h k =
    h.2 ∙ ap (λ (r : Reply). decision_after r loc free) (reply_once machines loads ups need free h.0 k.0 h.1 k.1) ∙ sym k.2

same_flag : (a b : Bool) (P : Type 0) → (IsTrue a ↔ P) → (IsTrue b ↔ P) → a ≡ b
same_flag true true P h k = refl
same_flag true false P h k = sym (k.1 (h.0 refl))
same_flag false true P h k = h.1 (k.0 refl)
same_flag false false P h k = refl

same_need : (i : Premises) (d : ℕ) (a b : Need) → slice_get i.graph.needs d ≡ Some a → slice_get i.graph.needs d ≡ Some b → a ≡ b
same_need i d a b h k = cc

-- there is one decision
pub decision_once : (i : Premises) (past : List Entry) (d : ℕ) (x y : Decision) → HasDecision i past d x → HasDecision i past d y → x ≡ y
decision_once i past d x y h k =
    let same = same_need i d k.need h.need k.needs h.needs in
    let P : Need → Type 0 = λ n. IsTrue k.loc ↔ IsLocal i past n in
    let loc = same_flag k.loc h.loc (IsLocal i past h.need) (subst P same k.loc_is) h.loc_is in
    let Q : Need → Type 0 = λ n. IsTrue k.loc_free ↔ IsLocalFree i past n in
    let free = same_flag k.loc_free h.loc_free (IsLocalFree i past h.need) (subst Q same k.loc_free_is) h.loc_free_is in
    let R : Need → Type 0 = λ n. IsDecision i.machines (loads_of i past) (ups_of i past) (IsEligibleAt i.machines n) n.prefer_local k.loc k.loc_free y in
    let S : Bool → Type 0 = λ b. IsDecision i.machines (loads_of i past) (ups_of i past) (IsEligibleAt i.machines h.need) h.need.prefer_local b k.loc_free y in
    let T : Bool → Type 0 = λ b. IsDecision i.machines (loads_of i past) (ups_of i past) (IsEligibleAt i.machines h.need) h.need.prefer_local h.loc b y in
    let turned = subst T free (subst S loc (subst R same k.decided)) in
    decided_once (h.need.prefer_local && h.loc) (if h.loc_free then Local else Wait) i.machines (loads_of i past) (ups_of i past) h.need h.loc h.loc_free x y h.decided turned

home_free : (loc free : Bool) → Local ≡ decision_at_home loc free → free ≡ true
home_free loc true h = refl
home_free true false h = cc
home_free false false h = cc

after_free : (r : Reply) (loc free : Bool) → Local ≡ decision_after r loc free → free ≡ true
after_free (Accept p) loc free h = cc
after_free Postpone loc free h = cc
after_free Decline loc free h = home_free loc free h
after_free DeclinePermanently loc free h = home_free loc free h

chosen_free : (free : Bool) → Local ≡ (if free then Local else Wait) → free ≡ true
chosen_free true h = refl
chosen_free false h = cc

local_decided : (b : Bool) (machines : List Builder) (loads : List ℕ) (ups : List Bool) (M : ℕ → Type 0) (loc free : Bool) → MatchBool b (Local ≡ (if free then Local else Wait)) ((r : Reply) × IsReply machines loads ups M free r × (Local ≡ decision_after r loc free)) → free ≡ true
local_decided true machines loads ups M loc free h = chosen_free free h
local_decided false machines loads ups M loc free h = after_free h.0 loc free h.2

-- where the local machine is decided on, it may build the derivation and has a free slot
pub local_free : (i : Premises) (past : List Entry) (d : ℕ) → (h : HasDecision i past d Local) → IsLocalFree i past h.need
local_free i past d h = h.loc_free_is.0 (local_decided (h.need.prefer_local && h.loc) i.machines (loads_of i past) (ups_of i past) (IsEligibleAt i.machines h.need) h.loc h.loc_free h.decided)

not_home : (p : ℕ) (loc free : Bool) → Remote p ≡ decision_at_home loc free → ⊥
not_home p loc true h = cc
not_home p true false h = cc
not_home p false false h = cc

accepted : (p : ℕ) (r : Reply) (loc free : Bool) → Remote p ≡ decision_after r loc free → r ≡ Accept p
accepted p (Accept q) loc free h = cc
accepted p Postpone loc free h = cc
accepted p Decline loc free h = absurd (not_home p loc free h)
accepted p DeclinePermanently loc free h = absurd (not_home p loc free h)

not_chosen : (p : ℕ) (free : Bool) → Remote p ≡ (if free then Local else Wait) → ⊥
not_chosen p true h = cc
not_chosen p false h = cc

remote_decided : (b : Bool) (machines : List Builder) (loads : List ℕ) (ups : List Bool) (M : ℕ → Type 0) (loc free : Bool) (p : ℕ) → MatchBool b (Remote p ≡ (if free then Local else Wait)) ((r : Reply) × IsReply machines loads ups M free r × (Remote p ≡ decision_after r loc free)) → IsBest machines loads ups M p
remote_decided true machines loads ups M loc free p h = absurd (not_chosen p free h)
remote_decided false machines loads ups M loc free p h =
    let P : Reply → Type 0 = λ r. IsReply machines loads ups M free r in
    subst P (accepted p h.0 loc free h.2) h.1

-- where a machine of the list is decided on, it is the best
pub remote_best : (i : Premises) (past : List Entry) (d p : ℕ) → HasDecision i past d (Remote p) → IsBestFor i past d p
remote_best i past d p h = record {
  need = h.need;
  needs = h.needs;
  best = remote_decided (h.need.prefer_local && h.loc) i.machines (loads_of i past) (ups_of i past) (IsEligibleAt i.machines h.need) h.loc h.loc_free p h.decided;
}

-- there is one best machine for a derivation
pub best_for_once : (i : Premises) (past : List Entry) (d p q : ℕ) → IsBestFor i past d p → IsBestFor i past d q → p ≡ q
best_for_once i past d p q h k =
    let same = same_need i d k.need h.need k.needs h.needs in
    let P : Need → Type 0 = λ n. IsBest i.machines (loads_of i past) (ups_of i past) (IsEligibleAt i.machines n) q in
    best_once i.machines (loads_of i past) (ups_of i past) (IsEligibleAt i.machines h.need) p q h.best (subst P same k.best)

-- the load of a builder stands at its place
pub load_at_place : (i : Premises) (past : List Entry) (p : ℕ) → p < length i.machines → load_at (loads_of i past) p ≡ load (p + 1) past
load_at_place i past p lt = get_or-map-range_with_len (λ (p : ℕ). load (p + 1) past) 0 (length i.machines) p p 0 lt (omega arith)

-- the best machine has a free slot
pub best_has_room : (i : Premises) (past : List Entry) (d p : ℕ) → p < length i.machines → IsBestFor i past d p → load (p + 1) past < jobs_at i.machines p
best_has_room i past d p lt h = let free = h.best.candidate.free.slot in rw (← load_at_place i past p lt) free
