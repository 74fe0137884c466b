-- An accepted place is in the list.
use Rattle.std.proofs.Common.{◌≡◌, ◌<◌, ◌↔◌, ℕ, Bool, List, length, get_or, Option, None, Some, refl, inl, inr}
use Rattle.std.specs.List.{All}
use Rattle.std.proofs.lemmas.List.Elements.{Contains-get_or}
use Rattle.std.specs.Prelude.{slice_get, IsSomeAnd}
use Rattle.std.proofs.lemmas.Option.{slice_get_within}
use Rattle.nd_machines.specs.Builders.{Builder}
use Rattle.nd_eligible.specs.Eligibility.{Eligible, IsEligibleAt, AreEligible}
use Rattle.nd_eligible.specs.declared.need.Need.{Need}
use Rattle.nd_hook.specs.declared.kinds.Reply.{Reply}
use Rattle.nd_hook.specs.declared.kinds.Reply.TheVariants.{Accept, Postpone, Decline, DeclinePermanently}
use Rattle.nd_eligible.specs.Settings.{Settings}
use Rattle.nd_hook.specs.Idle.{IsIdleReply}
use Rattle.nd_hook.specs.Replies.{IsReply, IsNoneFree, IsOneUp}
use Rattle.nd_hook.specs.ReplyText.{IsInList}

-- what holds of a machine that is found follows from any fact about one
found : (P : Builder → Type 0) (Q : Type 0) (o : Option Builder) → ((machine : Builder) → o ≡ Some machine → Q) → IsSomeAnd o P → Q
found P Q None then any = absurd any
found P Q (Some machine) then any = then machine refl

-- an eligible machine is in the list
eligible_in_list : (machines : List Builder) (need : Need) (place : ℕ) → IsEligibleAt machines need place → place < length machines
eligible_in_list machines need place eligible = found (λ machine. Eligible machine need) (place < length machines) (slice_get machines place) (λ machine is. slice_get_within machines place machine is) eligible

none_free : (machines : List Builder) (loads : List ℕ) (ups : List Bool) (A B : ℕ → Type 0) → ((place : ℕ) → A place ↔ B place) → IsNoneFree machines loads ups A → IsNoneFree machines loads ups B
none_free machines loads ups A B same none = λ place candidate. none place (record { meant = (same place).1 candidate.meant; free = candidate.free })

one_up : (ups : List Bool) (A B : ℕ → Type 0) → ((place : ℕ) → A place ↔ B place) → IsOneUp ups A → IsOneUp ups B
one_up ups A B same one = record { place = one.place; meant = (same one.place).0 one.meant; up = one.up }

-- the reply speaks of the machines that are meant, however they are named
pub same_reply : (machines : List Builder) (loads : List ℕ) (ups : List Bool) (A B : ℕ → Type 0) (free_here : Bool) (reply : Reply) → ((place : ℕ) → A place ↔ B place) → IsReply machines loads ups A free_here reply → IsReply machines loads ups B free_here reply
same_reply machines loads ups A B free_here (Accept place) same best = record {
  candidate = record { meant = (same place).0 best.candidate.meant; free = best.candidate.free };
  first = λ other candidate differs. best.first other (record { meant = (same other).1 candidate.meant; free = candidate.free }) differs;
}
same_reply machines loads ups A B free_here Postpone same said = (none_free machines loads ups A B same said.0, one_up ups A B same said.1, said.2)
same_reply machines loads ups A B free_here Decline same said = (
  said.0,
  none_free machines loads ups A B same said.1,
  elim said.2 [ inl none ↦ inl (λ one. none (one_up ups B A (λ place. ((same place).1, (same place).0)) one)) | inr free ↦ inr free ],
)
same_reply machines loads ups A B free_here DeclinePermanently same said = said

-- each eligible machine of a rising list is in the list of machines
pub places_in_range : (machines : List Builder) (need : Need) (places : List ℕ) → AreEligible machines need places → All (λ place. place < length machines) places
places_in_range machines need places eligible = λ k d within. eligible_in_list machines need (get_or places k d) ((eligible.exact (get_or places k d)).0 (Contains-get_or places k d within))

-- the place that a reply on an idle park accepts is in the list
pub idle_in_list : (machines : List Builder) (local : Settings) (need : Need) (reply : Reply) → IsIdleReply machines local need reply → IsInList machines reply
idle_in_list machines local need (Accept place) h = eligible_in_list machines need place h.is.candidate.meant
idle_in_list machines local need Postpone h = tt
idle_in_list machines local need Decline h = tt
idle_in_list machines local need DeclinePermanently h = tt
