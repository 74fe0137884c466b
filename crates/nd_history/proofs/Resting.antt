-- Where no step is left and no lease is live, nothing waits: with all slots free, what is ready can be begun or given up, and what
-- waits without being ready has an input that waits.
use Rattle.std.proofs.Common.{◌≡◌, ◌⊎◌, ℕ, zero, suc, ◌+◌, ◌<◌, ◌≤◌, Bool, true, false, ◌==◌, ◌&&◌, if◌then◌else◌, List, [], length, Contains, count_by, refl, sym, ◌∙◌, subst, arith, inl, inr, Option}
use Rattle.std.specs.Bool.{MatchBool}
use Rattle.std.specs.Option.{IsSomeAnd, option_map_or}
use Rattle.std.specs.List.{list_any}
use Rattle.std.proofs.lemmas.Option.{slice_get_cases}
use Rattle.nd_machines.specs.Builders.{Builder}
use Rattle.nd_eligible.specs.declared.need.Need.{Need}
use Rattle.nd_eligible.specs.Eligibility.{Eligible, IsEligibleAt}
use Rattle.nd_choose.specs.Best.{jobs_at, is_up_at, IsCandidate}
use Rattle.nd_graph.specs.Graphs.{rows_of}
use Rattle.nd_graph.specs.Walks.{AreInRange, PlacesFall, place_of}
use Rattle.nd_graph.proofs.Walked.{input_below, below_input}
use Rattle.nd_hook.specs.Replies.{IsReply}
use Rattle.nd_hook.specs.Decisions.{decision_after, decision_at_home}
use Rattle.nd_hook.specs.declared.kinds.Reply.{Reply}
use Rattle.nd_hook.specs.declared.kinds.Reply.TheVariants.{Accept, Postpone, Decline, DeclinePermanently}
use Rattle.nd_hook.specs.declared.kinds.Decision.TheVariants.{Local, Wait}
use Rattle.nd_history.specs.declared.entry.Entry.{Entry}
use Rattle.nd_leases.specs.declared.ticket.Ticket.{Ticket}
use Rattle.nd_history.specs.Premises.{Premises}
use Rattle.nd_history.specs.History.{live, load, is_leased, is_built, is_failed}
use Rattle.nd_history.specs.Standing.{drvs_in, needed_by, IsWaiting}
use Rattle.nd_history.specs.Choices.{loads_of, ups_of, HasDecision, IsLocal, IsLocalFree}
use Rattle.nd_history.specs.Pumping.{AreAtRest}
use Rattle.nd_history.specs.Resting.{WaitsForLeases}
use Rattle.nd_history.proofs.OneChoice.{load_at_place}

-- no machine has a load where no lease is live
no_load : (past : List Entry) → live past ≡ [] → (m : ℕ) → load m past ≡ 0
no_load past none m = let P : List Ticket → Type 0 = λ ts. count_by (λ t. m == t.machine) ts ≡ 0 in subst P (sym none) refl

none_leased : (past : List Entry) → live past ≡ [] → (d : ℕ) → is_leased d past ≡ false
none_leased past none d = let P : List Ticket → Type 0 = λ ts. list_any (λ t. d == t.drv) ts ≡ false in subst P (sym none) refl

-- the local machine has a free slot where it may build at all
home_free : (i : Premises) (past : List Entry) (need : Need) → live past ≡ [] → IsLocal i past need → IsLocalFree i past need
home_free i past need none home = let idle = no_load past none 0 in let jobs = home.jobs in record { home = home; slot = omega arith }

-- an eligible machine is one of the list, and may build at least one at once
eligible_jobs : (machines : List Builder) (need : Need) (p : ℕ) → IsEligibleAt machines need p → (p < length machines) × (1 ≤ jobs_at machines p)
eligible_jobs machines need p h =
    let cases = slice_get_cases machines p in
    let P : Option Builder → Type 0 = λ o. IsSomeAnd o (λ machine. Eligible machine need) in
    elim cases.1 [
      | inl there ↦
          let machine = subst P there.2 h in
          let Q : Option Builder → Type 0 = λ o. 1 ≤ option_map_or (λ machine. machine.jobs) o 0 in
          (there.1, subst Q (sym there.2) machine.jobs)
      | inr gone ↦ absurd (subst P gone.1 h)
    ]

-- an eligible machine that is up is free
one_free : (i : Premises) (past : List Entry) (need : Need) → live past ≡ [] → (p : ℕ) → IsEligibleAt i.machines need p → is_up_at (ups_of i past) p ≡ true
    → IsCandidate i.machines (loads_of i past) (ups_of i past) (IsEligibleAt i.machines need) p
one_free i past need none p meant up =
    let jobs = eligible_jobs i.machines need p meant in
    let at = load_at_place i past p jobs.0 ∙ no_load past none (p + 1) in
    let some = jobs.1 in
    record { meant = meant; free = record { up = up; slot = omega arith } }

-- with both flags alike the local machine is never waited for
no_wait_home : (loc free : Bool) → (loc ≡ true → free ≡ true) → Wait ≡ decision_at_home loc free → ⊥
no_wait_home loc true h is = cc
no_wait_home true false h is = let free = h refl in cc
no_wait_home false false h is = cc

no_wait_prefer : (prefer loc free : Bool) → (loc ≡ true → free ≡ true) → (prefer && loc) ≡ true → Wait ≡ (if free then Local else Wait) → ⊥
no_wait_prefer prefer loc true h both is = cc
no_wait_prefer true true false h both is = let free = h refl in cc
no_wait_prefer true false false h both is = cc
no_wait_prefer false loc false h both is = cc

no_wait_reply : (i : Premises) (past : List Entry) (need : Need) → live past ≡ [] → (loc free : Bool) → (loc ≡ true → free ≡ true) → (r : Reply) → IsReply i.machines (loads_of i past) (ups_of i past) (IsEligibleAt i.machines need) free r → Wait ≡ decision_after r loc free → ⊥
no_wait_reply i past need none loc free h (Accept p) reply is = cc
no_wait_reply i past need none loc free h Postpone reply is = reply.0 reply.1.place (one_free i past need none reply.1.place reply.1.meant reply.1.up)
no_wait_reply i past need none loc free h Decline reply is = no_wait_home loc free h is
no_wait_reply i past need none loc free h DeclinePermanently reply is = no_wait_home loc free h is

no_wait_decided : (i : Premises) (past : List Entry) (need : Need) → live past ≡ [] → (prefer loc free : Bool) → (loc ≡ true → free ≡ true) → (b : Bool) → (prefer && loc) ≡ b
    → MatchBool b (Wait ≡ (if free then Local else Wait)) ((r : Reply) × IsReply i.machines (loads_of i past) (ups_of i past) (IsEligibleAt i.machines need) free r × (Wait ≡ decision_after r loc free)) → ⊥
no_wait_decided i past need none prefer loc free h true is decided = no_wait_prefer prefer loc free h is decided
no_wait_decided i past need none prefer loc free h false is decided = no_wait_reply i past need none loc free h decided.0 decided.1 decided.2

-- where no lease is live nothing is to wait
no_wait : (i : Premises) (past : List Entry) (d : ℕ) → live past ≡ [] → HasDecision i past d Wait → ⊥
no_wait i past d none has =
    let free : has.loc ≡ true → has.loc_free ≡ true = λ loc. has.loc_free_is.1 (home_free i past has.need none (has.loc_is.0 loc)) in
    no_wait_decided i past has.need none has.need.prefer_local has.loc has.loc_free free (has.need.prefer_local && has.loc) refl has.decided

-- an input of what waits is built, or waits itself
input_waits : (i : Premises) (past : List Entry) (d c : ℕ) → live past ≡ [] → IsWaiting i past d → Contains (needed_by i d) c → (b f : Bool) → is_built c past ≡ b → is_failed c past ≡ f → (b ≡ true) ⊎ IsWaiting i past c
input_waits i past d c none waits input true f built failed = inl refl
input_waits i past d c none waits input false true built failed =
    absurd (waits.spared (inr (record { node = c; below = input_below (rows_of i.graph) d c input; failed = failed })))
input_waits i past d c none waits input false false built failed = inr (record {
  free = record { unbuilt = built; unfailed = failed; unleased = none_leased past none c };
  spared = λ doomed. elim doomed [
    | inl stopped ↦ waits.spared (inl stopped)
    | inr below ↦ waits.spared (inr (record { node = below.node; below = below_input (rows_of i.graph) d c below.node input below.below; failed = below.failed }))
  ];
})

built_or : (past : List Entry) (c : ℕ) (P : Type 0) → (is_built c past ≡ true) ⊎ P → (P → ⊥) → is_built c past ≡ true
built_or past c P (inl built) none = built
built_or past c P (inr p) none = absurd (none p)

-- nothing waits, by the order with inputs first
none_waits : (i : Premises) (past : List Entry) (order : List ℕ) → AreInRange (rows_of i.graph) → PlacesFall (rows_of i.graph) order → AreAtRest i past → live past ≡ [] → (n d : ℕ) → place_of order d < n → d < drvs_in i → IsWaiting i past d → ⊥
none_waits i past order ranged fall rest none zero d lt node waits = absurd (omega arith)
none_waits i past order ranged fall rest none (suc n) d lt node waits =
    no_wait i past d none
    ((rest.each d).waits
    (record {
      node = node;
      waiting = waits;
      inputs = record {
        built = λ c input.
            let lower = fall.falls d c node input in
            built_or past c (IsWaiting i past c)
            (input_waits i past d c none waits input (is_built c past) (is_failed c past) refl refl)
            (none_waits i past order ranged fall rest none n c (omega arith) (ranged.ranged d c input));
      };
    }))

pub waits_for_leases : (i : Premises) (past : List Entry) (order : List ℕ) → AreInRange (rows_of i.graph) → PlacesFall (rows_of i.graph) order → AreAtRest i past → WaitsForLeases i past
waits_for_leases i past order ranged fall rest = record {
  idle = λ none d node waits. none_waits i past order ranged fall rest none (suc (place_of order d)) d (omega arith) node waits;
}
