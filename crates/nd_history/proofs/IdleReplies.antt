-- After the empty history no slot is taken and every machine is up.
use Rattle.std.proofs.Common.{◌≡◌, ◌↔◌, ℕ, Bool, true, List, [], ◌∷◌, length, map, Some, refl, sym, ap, ◌∙◌, subst, arith}
use Rattle.std.specs.Prelude.{replicate, slice_get}
use Rattle.std.specs.List.{range_with_len}
use Rattle.std.proofs.lemmas.List.FromFn.{length-range_with_len}
use Rattle.nd_eligible.specs.declared.need.Need.{Need}
use Rattle.nd_eligible.specs.Eligibility.{IsEligibleAt}
use Rattle.nd_hook.specs.declared.kinds.Reply.{Reply}
use Rattle.nd_hook.specs.Replies.{IsReply}
use Rattle.nd_hook.specs.Idle.{idle, all_up, IsFreeHere, IsIdleReply}
use Rattle.nd_history.specs.Premises.{Premises}
use Rattle.nd_history.specs.Choices.{loads_of, ups_of, IsLocalFree, HasReply}
use Rattle.nd_history.specs.FirstReplies.{FirstReplyIsIdle}

each_same : {X : Type 0} (x : X) (ps : List ℕ) → map (λ (p : ℕ). x) ps ≡ replicate (length ps) x
each_same {X = X} x [] = refl
each_same {X = X} x (p ∷ ps) = ap (λ (xs : List X). x ∷ xs) (each_same x ps)

none_taken : (i : Premises) → loads_of i [] ≡ idle i.machines
none_taken i =
    each_same 0 (range_with_len 0 (length i.machines)) ∙ ap (λ (n : ℕ). replicate n 0) (length-range_with_len 0 (length i.machines))

each_up : (i : Premises) → ups_of i [] ≡ all_up i.machines
each_up i =
    each_same true (range_with_len 0 (length i.machines)) ∙ ap (λ (n : ℕ). replicate n true) (length-range_with_len 0 (length i.machines))

free_same : (i : Premises) (need : Need) → IsLocalFree i [] need ↔ IsFreeHere i.local need
free_same i need = (
  λ h. record { may = h.home.ok; slot = h.home.jobs },
  λ h. record { home = record { ok = h.may; jobs = h.slot; up = refl }; slot = omega (arith, h.slot) },
)

to_idle : (i : Premises) (d : ℕ) (reply : Reply) (h : HasReply i [] d reply) → IsIdleReply i.machines i.local h.need reply
to_idle i d reply h = record {
  free_here = h.loc_free;
  is_free = (λ yes_free. (free_same i h.need).0 (h.loc_free_is.0 yes_free), λ free. h.loc_free_is.1 ((free_same i h.need).1 free));
  is = subst (λ (ups : List Bool). IsReply i.machines (idle i.machines) ups (IsEligibleAt i.machines h.need) h.loc_free reply) (each_up i)
      (subst (λ (loads : List ℕ). IsReply i.machines loads (ups_of i []) (IsEligibleAt i.machines h.need) h.loc_free reply) (none_taken i) h.replied);
}

from_idle : (i : Premises) (d : ℕ) (need : Need) (reply : Reply) → slice_get i.graph.needs d ≡ Some need → IsIdleReply i.machines i.local need reply → HasReply i [] d reply
from_idle i d need reply needs h = record {
  need = need;
  needs = needs;
  loc_free = h.free_here;
  loc_free_is = (λ is_so. (free_same i need).1 (h.is_free.0 is_so), λ free. h.is_free.1 ((free_same i need).0 free));
  replied = subst (λ (ups : List Bool). IsReply i.machines (loads_of i []) ups (IsEligibleAt i.machines need) h.free_here reply) (sym (each_up i))
      (subst (λ (loads : List ℕ). IsReply i.machines loads (all_up i.machines) (IsEligibleAt i.machines need) h.free_here reply) (sym (none_taken i)) h.is);
}

pub first_reply_is_idle : FirstReplyIsIdle
first_reply_is_idle i d need reply needs = (
  λ h.
      let same : h.need ≡ need = cc (h.needs, needs) in
      subst (λ (n : Need). IsIdleReply i.machines i.local n reply) same (to_idle i d reply h),
  from_idle i d need reply needs,
)
