-- There is one reply and one decision, whichever way the machines that are meant are said.
use Rattle.std.proofs.Common.{◌≡◌, ◌∙◌, ◌⊎◌, inl, inr, ℕ, ◌<◌, Bool, true, false, true≢false, List, [], length, refl, sym, ap, subst, arith, ◌&&◌}
use Rattle.std.specs.Prelude.{Contains}
use Rattle.std.specs.Bool.{MatchBool}
use Rattle.nd_machines.specs.Builders.{Builder}
use Rattle.nd_eligible.specs.declared.need.Need.{Need}
use Rattle.nd_eligible.specs.Eligibility.{IsEligibleAt, AreEligible}
use Rattle.nd_eligible.proofs.Places.{eligible_within}
use Rattle.nd_choose.specs.Best.{jobs_at, load_at, IsFree}
use Rattle.nd_choose.proofs.Choosing.{best_along}
use Rattle.nd_choose.proofs.OneChoice.{one_best}
use Rattle.nd_hook.specs.Replies.{IsReply, IsNoneFree, IsOneUp}
use Rattle.nd_hook.specs.Decisions.{decision_after}
use Rattle.nd_hook.specs.SameAnswers.{SameReply, SameDecision}
use Rattle.nd_hook.specs.declared.kinds.Reply.{Reply}
use Rattle.nd_hook.specs.declared.kinds.Reply.TheVariants.{Accept, Postpone, Decline, DeclinePermanently}
use Rattle.nd_hook.specs.declared.kinds.Decision.{Decision}

-- no machine of an empty list is free
none_in_empty : (machines : List Builder) (loads : List ℕ) (ups : List Bool) (place : ℕ) → machines ≡ [] → IsFree machines loads ups place → ⊥
none_in_empty machines loads ups place empty free =
    let slot : load_at loads place < jobs_at [] place = subst (λ (ms : List Builder). load_at loads place < jobs_at ms place) empty free.slot in
    omega arith

-- .. nor eligible
none_eligible : (machines : List Builder) (need : Need) (place : ℕ) → machines ≡ [] → IsEligibleAt machines need place → ⊥
none_eligible machines need place empty meant =
    let within = eligible_within machines need place meant in
    let none : length machines ≡ 0 = ap length empty in
    omega (arith, within, none)

not_empty : (machines : List Builder) → machines ≡ [] → 0 < length machines → ⊥
not_empty machines empty some = let none : length machines ≡ 0 = ap length empty in omega (arith, some, none)

-- postponed and declined at once: one is up, and none is or a local slot is free
postponed_or_declined : (free : Bool) (Up : Type 0) → Up → free ≡ false → (Up → ⊥) ⊎ (free ≡ true) → ⊥
postponed_or_declined free Up up taken (inl none) = none up
postponed_or_declined free Up up taken (inr open') = true≢false (sym open' ∙ taken)

pub one_reply : (machines : List Builder) (loads : List ℕ) (ups : List Bool) (need : Need) (free : Bool) (r s : Reply)
    → IsReply machines loads ups (IsEligibleAt machines need) free r → IsReply machines loads ups (IsEligibleAt machines need) free s → r ≡ s
one_reply machines loads ups need free (Accept m) (Accept n) h k = ap Accept (one_best machines loads ups (IsEligibleAt machines need) m n h k)
one_reply machines loads ups need free (Accept m) Postpone h k = absurd (k.0 m h.candidate)
one_reply machines loads ups need free (Accept m) Decline h k = absurd (k.1 m h.candidate)
one_reply machines loads ups need free (Accept m) DeclinePermanently h k = absurd (none_in_empty machines loads ups m k h.candidate.free)
one_reply machines loads ups need free Postpone (Accept n) h k = absurd (h.0 n k.candidate)
one_reply machines loads ups need free Postpone Postpone h k = refl
one_reply machines loads ups need free Postpone Decline h k = absurd (postponed_or_declined free (IsOneUp ups (IsEligibleAt machines need)) h.1 h.2 k.2)
one_reply machines loads ups need free Postpone DeclinePermanently h k = absurd (none_eligible machines need h.1.place k h.1.meant)
one_reply machines loads ups need free Decline (Accept n) h k = absurd (h.1 n k.candidate)
one_reply machines loads ups need free Decline Postpone h k = absurd (postponed_or_declined free (IsOneUp ups (IsEligibleAt machines need)) k.1 k.2 h.2)
one_reply machines loads ups need free Decline Decline h k = refl
one_reply machines loads ups need free Decline DeclinePermanently h k = absurd (not_empty machines k h.0)
one_reply machines loads ups need free DeclinePermanently (Accept n) h k = absurd (none_in_empty machines loads ups n h k.candidate.free)
one_reply machines loads ups need free DeclinePermanently Postpone h k = absurd (none_eligible machines need k.1.place h k.1.meant)
one_reply machines loads ups need free DeclinePermanently Decline h k = absurd (not_empty machines h k.0)
one_reply machines loads ups need free DeclinePermanently DeclinePermanently h k = refl

module _ (machines : List Builder) (loads : List ℕ) (ups : List Bool) (P Q : ℕ → Type 0) (f : (n : ℕ) → P n → Q n) (g : (n : ℕ) → Q n → P n) where
  up_along : IsOneUp ups P → IsOneUp ups Q
  up_along h = record { place = h.place; meant = f h.place h.meant; up = h.up }

  up_back : IsOneUp ups Q → IsOneUp ups P
  up_back h = record { place = h.place; meant = g h.place h.meant; up = h.up }

  free_along : IsNoneFree machines loads ups P → IsNoneFree machines loads ups Q
  free_along h = λ n c. h n (record { meant = g n c.meant; free = c.free })

  declined_along : (free : Bool) → (IsOneUp ups P → ⊥) ⊎ (free ≡ true) → (IsOneUp ups Q → ⊥) ⊎ (free ≡ true)
  declined_along free (inl none) = inl (λ one. none (up_back one))
  declined_along free (inr open') = inr open'

  pub reply_along : (free : Bool) (r : Reply) → IsReply machines loads ups P free r → IsReply machines loads ups Q free r
  reply_along free (Accept m) h = best_along machines loads ups P Q f g m h
  reply_along free Postpone h = (free_along h.0, up_along h.1, h.2)
  reply_along free Decline h = (h.0, free_along h.1, declined_along free h.2)
  reply_along free DeclinePermanently h = h

pub same_reply : SameReply
same_reply machines loads ups need places free eligible among whole h k =
    one_reply machines loads ups need free among whole
    (reply_along machines loads ups (Contains places) (IsEligibleAt machines need) (λ n. (eligible.exact n).0) (λ n. (eligible.exact n).1) free among h) k

decided_alike : (here : Bool) (home : Decision) (machines : List Builder) (loads : List ℕ) (ups : List Bool) (need : Need) (places : List ℕ) (loc free : Bool)
    → AreEligible machines need places → (x y : Decision)
    → MatchBool here (x ≡ home) ((reply : Reply) × IsReply machines loads ups (Contains places) free reply × (x ≡ decision_after reply loc free))
    → MatchBool here (y ≡ home) ((reply : Reply) × IsReply machines loads ups (IsEligibleAt machines need) free reply × (y ≡ decision_after reply loc free))
    → x ≡ y
decided_alike true home machines loads ups need places loc free eligible x y h k = h ∙ sym k
decided_alike false home machines loads ups need places loc free eligible x y h k =
    h.2 ∙ ap (λ (r : Reply). decision_after r loc free) (same_reply machines loads ups need places free eligible h.0 k.0 h.1 k.1) ∙ sym k.2

pub same_decision : SameDecision
same_decision machines loads ups need places prefer loc free eligible among whole h k =
    decided_alike (prefer && loc) _ machines loads ups need places loc free eligible among whole h k
