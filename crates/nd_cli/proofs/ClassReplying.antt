-- On an idle park needs with the same platform and the same required features have the same reply.
use Rattle.std.proofs.Common.{◌≡◌, ℕ, ◌<◌, ◌≤◌, Bool, true, List, [], ◌∷◌, ◌++◌, length, replicate, get_or, Option, None, Some, slice_get, subst, sym, inl, inr, arith}
use Rattle.std.specs.Prelude.{IsSomeAnd}
use Rattle.std.specs.Borrow.{Bor}
use Rattle.std.specs.List.{All, AllZip}
use Rattle.std.specs.Option.{option_map_or}
use Rattle.std.proofs.lemmas.Bool.{cases_lt}
use Rattle.std.proofs.lemmas.List.{get_or-replicate, get_or_past, length-replicate}
use Rattle.std.proofs.lemmas.Option.{slice_get_within, get_or_from_slice_get}
use Rattle.std.proofs.lemmas.Slice.Zip.{AllZip-long}
use Rattle.nd_machines.specs.Builders.{Builder}
use Rattle.nd_eligible.specs.Settings.{Settings}
use Rattle.nd_eligible.specs.declared.need.Need.{Need}
use Rattle.nd_eligible.specs.Eligibility.{Eligible, IsEligibleAt, BuildsFor, IsSubset}
use Rattle.nd_choose.specs.Best.{IsFree, is_up_at, load_at, jobs_at}
use Rattle.nd_hook.specs.declared.kinds.Reply.{Reply}
use Rattle.nd_hook.specs.declared.kinds.Reply.TheVariants.{Accept, Postpone, Decline, DeclinePermanently}
use Rattle.nd_hook.specs.Idle.{idle, all_up, IsIdleReply}
use Rattle.nd_hook.specs.Replies.{IsReply}
use Rattle.nd_cli.proofs.Accepted.{same_reply}
use Rattle.nd_cli.proofs.LocalTest.{free_here}
use Rattle.nd_cli.proofs.Replying.{AllZip-at}
use Rattle.nd_cli.proofs.SameClass.{below}
use Rattle.nd_cli.specs.ClassReplies.{IsClassReply}
use Rattle.nd_cli.specs.SharedClasses.{IsMade, IsOfClass}

-- ---- an eligible machine is free on an idle park

no_load : (n i : ℕ) → load_at (replicate n 0) i ≡ 0
no_load n i = elim (cases_lt i n) [
  | inl within ↦ get_or-replicate n i 0 0 within
  | inr past ↦ get_or_past (replicate n 0) i 0 (subst (λ (j : ℕ). j ≤ i) (sym (length-replicate n 0)) past)
]

some_jobs : (found : Option Builder) (need : Need) → IsSomeAnd found (λ machine. Eligible machine need) → 1 ≤ option_map_or (λ machine. machine.jobs) found 0
some_jobs None need h = absurd h
some_jobs (Some machine) need h = h.jobs

is_free : (machines : List Builder) (need : Need) (place : ℕ) → IsEligibleAt machines need place → is_up_at (all_up machines) place ≡ true → IsFree machines (idle machines) (all_up machines) place
is_free machines need place eligible up = record {
  up = up;
  slot =
      let none : load_at (idle machines) place ≡ 0 = no_load (length machines) place in
      let some : 1 ≤ jobs_at machines place = some_jobs (slice_get machines place) need eligible in
      omega (arith, none, some);
}

-- so a free slot of the local machine changes no reply
whatever_slot : (machines : List Builder) (need : Need) (one other : Bool) (reply : Reply) → IsReply machines (idle machines) (all_up machines) (IsEligibleAt machines need) one reply
    → IsReply machines (idle machines) (all_up machines) (IsEligibleAt machines need) other reply
whatever_slot machines need one other (Accept place) h = h
whatever_slot machines need one other Postpone h =
    let up = h.1 in absurd (h.0 up.place (record { meant = up.meant; free = is_free machines need up.place up.meant up.up }))
whatever_slot machines need one other Decline h = (h.0, h.1, inl (λ up. h.1 up.place (record { meant = up.meant; free = is_free machines need up.place up.meant up.up })))
whatever_slot machines need one other DeclinePermanently h = h

-- ---- needs with the same platform and the same required features

eligible_alike : (machine : Builder) (one other : Need) → one.system ≡ other.system → one.features ≡ other.features → Eligible machine one → Eligible machine other
eligible_alike machine one other system features h = record {
  jobs = h.jobs;
  system = subst (λ (s : List ℕ). BuildsFor machine s) system h.system;
  required = subst (λ (f : List (List ℕ)). IsSubset f (machine.supported ++ machine.mandatory)) features h.required;
  mandatory = subst (λ (f : List (List ℕ)). IsSubset machine.mandatory f) features h.mandatory;
}

some_alike : (found : Option Builder) (one other : Need) → one.system ≡ other.system → one.features ≡ other.features
    → IsSomeAnd found (λ machine. Eligible machine one) → IsSomeAnd found (λ machine. Eligible machine other)
some_alike None one other system features h = h
some_alike (Some machine) one other system features h = eligible_alike machine one other system features h

reply_alike : (machines : List Builder) (local : Settings) (one other : Need) (reply : Reply) → one.system ≡ other.system → one.features ≡ other.features
    → IsIdleReply machines local one reply → IsIdleReply machines local other reply
reply_alike machines local one other reply system features h = let free = free_here local other in record {
  free_here = free.test;
  is_free = free.says;
  is = whatever_slot machines other h.free_here free.test reply
      (same_reply machines (idle machines) (all_up machines) (IsEligibleAt machines one) (IsEligibleAt machines other) h.free_here reply
      (λ place. (some_alike (slice_get machines place) one other system features, some_alike (slice_get machines place) other one (sym system) (sym features)))
      h.is);
}

-- ---- the reply about a class is that about each of its derivations

one_reply : (machines : List Builder) (local : Settings) (firsts : List (Bor Need)) (made : List Reply) (need : Need) (class : ℕ) (reply : Reply) → AllZip (IsClassReply machines local) firsts made → IsOfClass firsts need class → IsMade made class reply
    → IsIdleReply machines local need reply
one_reply machines local firsts made need class reply each of made_so =
    let at = AllZip-at (IsClassReply machines local) firsts made class of.first reply each (slice_get_within firsts class of.first of.listed) in
    reply_alike machines local of.first.now need reply of.same.system of.same.features
    (subst (λ (f : Bor Need). IsIdleReply machines local f.now reply) (get_or_from_slice_get firsts class of.first of.first of.listed)
    (subst (λ (r : Reply). IsIdleReply machines local (get_or firsts class of.first).now r) (get_or_from_slice_get made class reply reply made_so.is) at.is))

-- each derivation has the reply about its class
pub all_replies : (machines : List Builder) (local : Settings) (firsts : List (Bor Need)) (made : List Reply) (needs : List Need) (members : List ℕ) (replies : List Reply) → AllZip (IsClassReply machines local) firsts made
    → AllZip (IsOfClass firsts) needs members → AllZip (IsMade made) members replies → AllZip (IsIdleReply machines local) needs replies
all_replies machines local firsts made [] [] [] each of are = tt
all_replies machines local firsts made [] [] (reply ∷ replies) each of are = absurd are
all_replies machines local firsts made [] (class ∷ members) replies each of are = absurd of
all_replies machines local firsts made (need ∷ needs) [] replies each of are = absurd of
all_replies machines local firsts made (need ∷ needs) (class ∷ members) [] each of are = absurd are
all_replies machines local firsts made (need ∷ needs) (class ∷ members) (reply ∷ replies) each of are =
    (one_reply machines local firsts made need class reply each of.0 are.0, all_replies machines local firsts made needs members replies each of.1 are.1)

-- a reply was made about each class
pub are_made : (machines : List Builder) (local : Settings) (firsts : List (Bor Need)) (made : List Reply) (needs : List Need) (members : List ℕ) → AllZip (IsClassReply machines local) firsts made → AllZip (IsOfClass firsts) needs members
    → All (λ class. class < length made) members
are_made machines local firsts made needs members each of =
    let long = AllZip-long (IsClassReply machines local) firsts made each in λ k d within. below firsts (length made) needs members (sym long) of k d within
