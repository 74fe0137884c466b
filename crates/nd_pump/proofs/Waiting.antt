-- What is decided about a kind is decided about its derivations; and a kind that is to wait goes on waiting where no machine of its own
-- gets a free slot or goes up or down.
use Rattle.std.proofs.Common.{◌≡◌, ◌∙◌, inl, inr, ℕ, suc, ◌+◌, ◌<◌, ◌≤◌, Bool, true, false, ◌&&◌, if◌then◌else◌, List, length, refl, sym, subst, arith, Some, slice_get, add-one}
use Rattle.std.specs.Prelude.{Contains}
use Rattle.std.specs.Bool.{MatchBool}
use Rattle.std.proofs.lemmas.List.FromFn.{get_or-map-range_with_len}
use Rattle.std.proofs.lemmas.Option.{unwrap_or-slice_get}
use Rattle.nd_machines.specs.Builders.{Builder}
use Rattle.nd_eligible.specs.declared.need.Need.{Need}
use Rattle.nd_eligible.specs.Eligibility.{IsEligibleAt}
use Rattle.nd_choose.specs.Best.{load_at, is_up_at}
use Rattle.nd_hook.specs.Replies.{IsReply, IsNoneFree}
use Rattle.nd_hook.specs.Decisions.{IsDecision, decision_after, decision_at_home}
use Rattle.nd_hook.specs.declared.kinds.Reply.{Reply}
use Rattle.nd_hook.specs.declared.kinds.Reply.TheVariants.{Accept, Postpone, Decline, DeclinePermanently}
use Rattle.nd_hook.specs.declared.kinds.Decision.{Decision}
use Rattle.nd_hook.specs.declared.kinds.Decision.TheVariants.{Local, Wait}
use Rattle.nd_hook.proofs.OneReply.{reply_along}
use Rattle.nd_kinds.specs.declared.kind.Kind.{Kind}
use Rattle.nd_kinds.specs.Kinds.{IsKindOf}
use Rattle.nd_history.specs.declared.entry.Entry.{Entry}
use Rattle.nd_history.specs.Premises.{Premises}
use Rattle.nd_history.specs.History.{is_up}
use Rattle.nd_history.specs.Choices.{loads_of, ups_of, IsLocal, HasDecision, HasReply}
use Rattle.nd_history.proofs.OneChoice.{load_at_place}
use Rattle.nd_pump.specs.Decided.{IsHome, HasKindDecision, HasKindReply, DecidesForAll}
use Rattle.nd_pump.specs.Waiting.{IsSteady, IsUnmoved, LiesIn, WaitingGoesOn}

-- ---- a kind's decision is that of its derivations

home_local : (i : Premises) (past : List Entry) (need : Need) (kind : Kind) → IsKindOf i.machines i.local need kind → IsHome i past kind → IsLocal i past need
home_local i past need kind fits home = record { ok = fits.local.0 home.ok; jobs = home.jobs; up = home.up }

local_home : (i : Premises) (past : List Entry) (need : Need) (kind : Kind) → IsKindOf i.machines i.local need kind → IsLocal i past need → IsHome i past kind
local_home i past need kind fits local = record { ok = fits.local.1 local.ok; jobs = local.jobs; up = local.up }

decision_along : (b : Bool) (home : Decision) (machines : List Builder) (loads : List ℕ) (ups : List Bool) (P Q : ℕ → Type 0) → ((n : ℕ) → P n → Q n) → ((n : ℕ) → Q n → P n) → (loc free : Bool) (x : Decision)
    → MatchBool b (x ≡ home) ((reply : Reply) × IsReply machines loads ups P free reply × (x ≡ decision_after reply loc free))
    → MatchBool b (x ≡ home) ((reply : Reply) × IsReply machines loads ups Q free reply × (x ≡ decision_after reply loc free))
decision_along true home machines loads ups P Q f g loc free x h = h
decision_along false home machines loads ups P Q f g loc free x h = (h.0, reply_along machines loads ups P Q f g free h.0 h.1, h.2)

pub kind_decides : (i : Premises) (past : List Entry) (d : ℕ) (need : Need) (kind : Kind) (decision : Decision) → slice_get i.graph.needs d ≡ Some need → IsKindOf i.machines i.local need kind
    → HasKindDecision i past kind decision → HasDecision i past d decision
kind_decides i past d need kind decision needs fits h =
    let S : Bool → Type 0 = λ b. IsDecision i.machines (loads_of i past) (ups_of i past) (IsEligibleAt i.machines need) b h.loc h.loc_free decision in
    record {
      need = need;
      needs = needs;
      loc = h.loc;
      loc_is = (λ is. home_local i past need kind fits (h.loc_is.0 is), λ local. h.loc_is.1 (local_home i past need kind fits local));
      loc_free = h.loc_free;
      loc_free_is = (
        λ is. let free = h.loc_free_is.0 is in record { home = home_local i past need kind fits free.home; slot = free.slot },
        λ free. h.loc_free_is.1 (record { home = local_home i past need kind fits free.home; slot = free.slot }),
      );
      decided = subst S fits.prefers
          (decision_along (kind.prefer_local && h.loc) (if h.loc_free then Local else Wait) i.machines (loads_of i past) (ups_of i past) (Contains kind.places) (IsEligibleAt i.machines need)
          (λ n. (fits.eligible.exact n).0) (λ n. (fits.eligible.exact n).1) h.loc h.loc_free decision h.decided);
    }

pub kind_replies : (i : Premises) (past : List Entry) (d : ℕ) (need : Need) (kind : Kind) (reply : Reply) → slice_get i.graph.needs d ≡ Some need → IsKindOf i.machines i.local need kind
    → HasKindReply i past kind reply → HasReply i past d reply
kind_replies i past d need kind reply needs fits h = record {
  need = need;
  needs = needs;
  loc_free = h.loc_free;
  loc_free_is = (
    λ is. let free = h.loc_free_is.0 is in record { home = home_local i past need kind fits free.home; slot = free.slot },
    λ free. h.loc_free_is.1 (record { home = local_home i past need kind fits free.home; slot = free.slot }),
  );
  replied = reply_along i.machines (loads_of i past) (ups_of i past) (Contains kind.places) (IsEligibleAt i.machines need) (λ n. (fits.eligible.exact n).0) (λ n. (fits.eligible.exact n).1) h.loc_free reply h.replied;
}

-- ---- waiting goes on

pub up_at_place : (i : Premises) (past : List Entry) (p : ℕ) → p < length i.machines → is_up_at (ups_of i past) p ≡ is_up (p + 1) past
up_at_place i past p lt = unwrap_or-slice_get (ups_of i past) p false ∙ get_or-map-range_with_len (λ (p : ℕ). is_up (p + 1) past) 0 (length i.machines) p p false lt (omega arith)

wait_home : (loc free : Bool) → Wait ≡ decision_at_home loc free → free ≡ false
wait_home loc true h = cc
wait_home loc false h = refl

wait_after : (machines : List Builder) (loads : List ℕ) (ups : List Bool) (M : ℕ → Type 0) (r : Reply) (loc free : Bool) → IsReply machines loads ups M free r → Wait ≡ decision_after r loc free → free ≡ false
wait_after machines loads ups M (Accept p) loc free is h = cc
wait_after machines loads ups M Postpone loc free is h = is.2
wait_after machines loads ups M Decline loc free is h = wait_home loc free h
wait_after machines loads ups M DeclinePermanently loc free is h = wait_home loc free h

wait_chosen : (free : Bool) → Wait ≡ (if free then Local else Wait) → free ≡ false
wait_chosen true h = cc
wait_chosen false h = refl

-- what waits has no free local slot
wait_taken : (b : Bool) (machines : List Builder) (loads : List ℕ) (ups : List Bool) (M : ℕ → Type 0) (loc free : Bool)
    → MatchBool b (Wait ≡ (if free then Local else Wait)) ((reply : Reply) × IsReply machines loads ups M free reply × (Wait ≡ decision_after reply loc free)) → free ≡ false
wait_taken true machines loads ups M loc free h = wait_chosen free h
wait_taken false machines loads ups M loc free h = wait_after machines loads ups M h.0 loc free h.1 h.2

-- the machines that are meant stay as they are, or are more loaded
record AreSteady (loads now_loads : List ℕ) (ups now_ups : List Bool) (M : ℕ → Type 0) : Type 0 where
  up : (p : ℕ) → M p → is_up_at now_ups p ≡ is_up_at ups p
  load : (p : ℕ) → M p → load_at loads p ≤ load_at now_loads p

none_free_still : (machines : List Builder) (loads now_loads : List ℕ) (ups now_ups : List Bool) (M : ℕ → Type 0) → AreSteady loads now_loads ups now_ups M → IsNoneFree machines loads ups M → IsNoneFree machines now_loads now_ups M
none_free_still machines loads now_loads ups now_ups M steady none = λ p c.
    let heavier = steady.load p c.meant in
    let slot = c.free.slot in
    none p (record { meant = c.meant; free = record { up = sym (steady.up p c.meant) ∙ c.free.up; slot = omega (arith, heavier, slot) } })

reply_still : (machines : List Builder) (loads now_loads : List ℕ) (ups now_ups : List Bool) (M : ℕ → Type 0) → AreSteady loads now_loads ups now_ups M → (loc : Bool) (r : Reply)
    → IsReply machines loads ups M false r → Wait ≡ decision_after r loc false → IsReply machines now_loads now_ups M false r
reply_still machines loads now_loads ups now_ups M steady loc (Accept p) is h = absurd (let no_way : ⊥ = cc in no_way)
reply_still machines loads now_loads ups now_ups M steady loc Postpone is h = (
  none_free_still machines loads now_loads ups now_ups M steady is.0,
  record { place = is.1.place; meant = is.1.meant; up = steady.up is.1.place is.1.meant ∙ is.1.up },
  refl,
)
reply_still machines loads now_loads ups now_ups M steady loc Decline is h = (
  is.0,
  none_free_still machines loads now_loads ups now_ups M steady is.1,
  elim is.2 [
    | inl none ↦ inl (λ one. none (record { place = one.place; meant = one.meant; up = sym (steady.up one.place one.meant) ∙ one.up }))
    | inr free ↦ absurd (let no_way : ⊥ = cc in no_way)
  ],
)
reply_still machines loads now_loads ups now_ups M steady loc DeclinePermanently is h = is

decision_still : (b : Bool) (machines : List Builder) (loads now_loads : List ℕ) (ups now_ups : List Bool) (M : ℕ → Type 0) → AreSteady loads now_loads ups now_ups M → (loc : Bool)
    → MatchBool b (Wait ≡ (if false then Local else Wait)) ((reply : Reply) × IsReply machines loads ups M false reply × (Wait ≡ decision_after reply loc false))
    → MatchBool b (Wait ≡ (if false then Local else Wait)) ((reply : Reply) × IsReply machines now_loads now_ups M false reply × (Wait ≡ decision_after reply loc false))
decision_still true machines loads now_loads ups now_ups M steady loc h = refl
decision_still false machines loads now_loads ups now_ups M steady loc h = (h.0, reply_still machines loads now_loads ups now_ups M steady loc h.0 h.1 h.2, h.2)

steady_places : (i : Premises) (past later : List Entry) (kind : Kind) → LiesIn (length i.machines) kind → IsUnmoved past later kind → AreSteady (loads_of i past) (loads_of i later) (ups_of i past) (ups_of i later) (Contains kind.places)
steady_places i past later kind lies unmoved = record {
  up = λ p meant.
      let lt = lies.each p meant in
      let steady : IsSteady past later (p + 1) = subst (IsSteady past later) (sym (add-one p)) (unmoved.each (suc p) meant) in
      up_at_place i later p lt ∙ (steady.up ∙ sym (up_at_place i past p lt));
  load = λ p meant.
      let lt = lies.each p meant in
      let steady : IsSteady past later (p + 1) = subst (IsSteady past later) (sym (add-one p)) (unmoved.each (suc p) meant) in
      let was = load_at_place i past p lt in
      let now = load_at_place i later p lt in
      let le = steady.load in
      omega (arith, was, now, le);
}

home_still : (i : Premises) (past later : List Entry) (kind : Kind) → IsUnmoved past later kind → IsHome i past kind → IsHome i later kind
home_still i past later kind unmoved home = record { ok = home.ok; jobs = home.jobs; up = (unmoved.each 0 home.ok).up ∙ home.up }

home_before : (i : Premises) (past later : List Entry) (kind : Kind) → IsUnmoved past later kind → IsHome i later kind → IsHome i past kind
home_before i past later kind unmoved home = record { ok = home.ok; jobs = home.jobs; up = sym (unmoved.each 0 home.ok).up ∙ home.up }

-- a kind that is to wait goes on waiting while its machines stay as they are, or are more loaded
pub wait_stays : (i : Premises) (past later : List Entry) (kind : Kind) → LiesIn (length i.machines) kind → IsUnmoved past later kind → HasKindDecision i past kind Wait → HasKindDecision i later kind Wait
wait_stays i past later kind lies unmoved h =
    let taken = wait_taken (kind.prefer_local && h.loc) i.machines (loads_of i past) (ups_of i past) (Contains kind.places) h.loc h.loc_free h.decided in
    let P : Bool → Type 0 = λ free. IsDecision i.machines (loads_of i past) (ups_of i past) (Contains kind.places) kind.prefer_local h.loc free Wait in
    record {
      loc = h.loc;
      loc_is = (λ is. home_still i past later kind unmoved (h.loc_is.0 is), λ home. h.loc_is.1 (home_before i past later kind unmoved home));
      loc_free = false;
      loc_free_is = (
        λ is. absurd (let no_way : ⊥ = cc in no_way),
        λ free.
            let home = home_before i past later kind unmoved free.home in
            let lighter = (unmoved.each 0 home.ok).load in
            let slot = free.slot in
            sym taken ∙ h.loc_free_is.1 (record { home = home; slot = omega (arith, lighter, slot) }),
      );
      decided = decision_still (kind.prefer_local && h.loc) i.machines (loads_of i past) (loads_of i later) (ups_of i past) (ups_of i later) (Contains kind.places)
          (steady_places i past later kind lies unmoved) h.loc (subst P taken h.decided);
    }

pub decides_for_all : DecidesForAll
decides_for_all = record { decides = kind_decides }

pub waiting_goes_on : WaitingGoesOn
waiting_goes_on = record { goes_on = wait_stays }
