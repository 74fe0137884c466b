-- A turn leads to a step, or is over; and where no derivation is due there is no step.
use Rattle.std.proofs.Common.{◌≡◌, ◌∙◌, ◌⊎◌, inl, inr, ℕ, zero, suc, ◌+◌, ◌<◌, Bool, true, false, not, cond, List, [], ◌∷◌, Some, length, count_by, get_or, slice_get, refl, sym, ap, subst, arith}
use Rattle.std.specs.Prelude.{All}
use Rattle.std.proofs.Math.ListN.{set, length-set}
use Rattle.std.proofs.lemmas.Bool.{cases_eq}
use Rattle.std.proofs.lemmas.List.{get_or-set_other}
use Rattle.std.proofs.lemmas.List.Elements.{All-from_get_or, Contains-get_or}
use Rattle.std.proofs.lemmas.Option.{slice_get_cases, slice_get_within}
use Rattle.nd_eligible.specs.declared.need.Need.{Need}
use Rattle.nd_eligible.proofs.Places.{eligible_within}
use Rattle.nd_flags.specs.Members.{IsMember}
use Rattle.nd_flags.proofs.RowFacts.{IsMember-within}
use Rattle.std.proofs.lemmas.List.{length-map}
use Rattle.nd_graph.specs.Graphs.{IsSound, nodes_of}
use Rattle.nd_hook.specs.declared.kinds.Decision.TheVariants.{Wait}
use Rattle.nd_failure.specs.Progress as board
use Rattle.nd_failure.specs.Progress.{Progress}
use Rattle.nd_kinds.specs.declared.kind.Kind.{Kind}
use Rattle.nd_kinds.specs.Kinds.{AreKinds, Kinded, IsKindOf, number_of}
use Rattle.nd_kinds.proofs.KindFacts.{kind_suits}
use Rattle.nd_pump.specs.Grouped.{group_in}
use Rattle.nd_pump.specs.Queues.{Queued, IsDue, IsLeastDue}
use Rattle.nd_history.specs.declared.entry.Entry.{Entry}
use Rattle.nd_history.specs.Premises.{Premises}
use Rattle.nd_history.specs.Standing.{drvs_in, IsReady}
use Rattle.nd_history.specs.Choices.{HasDecision}
use Rattle.nd_history.specs.Legal.{IsLegal}
use Rattle.nd_history.specs.Marks.{AreMarked}
use Rattle.nd_history.specs.Pumping.{IsStepOf, IsAtRest, AreAtRest, IsPumpStep}
use Rattle.nd_history.proofs.Boards.{ready_marked}
use Rattle.nd_history.proofs.Slots.{count_cons}
use Rattle.nd_history.proofs.Steps.{step_ready, rest_waiting}
use Rattle.nd_pump.specs.Decided.{HasDecisionByKind}
use Rattle.nd_pump.specs.Turned.{Turned, is_parked, AreTurns, HasSearched}
use Rattle.nd_pump.specs.Taking.{left_in}
use Rattle.nd_pump.proofs.Waiting.{kind_decides}

-- ---- counts

cond_more : (c : Bool) (m n : ℕ) → m + 1 ≡ n → cond c (m + 1) m + 1 ≡ cond c (n + 1) n
cond_more true m n is = ap (λ (k : ℕ). k + 1) is
cond_more false m n is = is

cond_off : (b c : Bool) (m : ℕ) → b ≡ false → c ≡ true → cond b (m + 1) m + 1 ≡ cond c (m + 1) m
cond_off b c m was now = rw (was, now) refl

-- one item that passed is put for one that doesn't
count_put : (p : Bool → Bool) (xs : List Bool) (k : ℕ) (d b : Bool) → k < length xs → p (get_or xs k d) ≡ true → p b ≡ false → count_by p (set xs k b) + 1 ≡ count_by p xs
count_put p [] k d b lt was now = absurd (omega (arith, lt))
count_put p (x ∷ xs) zero d b lt was now = ap (λ (k : ℕ). k + 1) (count_cons p b xs) ∙ (cond_off (p b) (p x) (count_by p xs) now was ∙ sym (count_cons p x xs))
count_put p (x ∷ xs) (suc k) d b lt was now =
    ap (λ (k : ℕ). k + 1) (count_cons p x (set xs k b))
    ∙ (cond_more (p x) (count_by p (set xs k b)) (count_by p xs) (count_put p xs k d b (omega (arith, lt)) was now) ∙ sym (count_cons p x xs))

same_turned : (a b : Turned) → a.queue ≡ b.queue → a.kinds ≡ b.kinds → a.vacant ≡ b.vacant → a ≡ b
same_turned a b p q r = λ i. record { queue = p i; kinds = q i; vacant = r i }

-- a derivation less is listed
pub left_removed : (t new : Turned) (d : ℕ) → new.queue ≡ record t.queue { ready = set t.queue.ready d false } → IsMember t.queue.ready d → left_in new.queue < left_in t.queue
left_removed t new d is member =
    let less = count_put (λ (b : Bool). b) t.queue.ready d false false (IsMember-within t.queue.ready d member) member refl in
    let same = ap left_in is in
    omega (arith, less, same)

-- a kind more is passed over
pub left_parked : (t new : Turned) (n : ℕ) → new.queue ≡ record t.queue { parked = set t.queue.parked n true } → n < length t.queue.parked → is_parked t n ≡ false → left_in new.queue < left_in t.queue
left_parked t new n is lt awake =
    let less = count_put (λ (b : Bool). not b) t.queue.parked n false true lt (ap not awake) refl in
    let same = ap left_in is in
    omega (arith, less, same)

-- ---- turns that are over

pub turns_removed : (i : Premises) (past : List Entry) (p : Progress) (t new : Turned) (d : ℕ) → new.kinds ≡ t.kinds → new.vacant ≡ t.vacant → new.queue ≡ record t.queue { ready = set t.queue.ready d false }
    → (board.IsReady p d → ⊥) → AreTurns i past p t → AreTurns i past p new
turns_removed i past p t new d kinds vacant queue unready was =
    let after : Turned = record { queue = record t.queue { ready = set t.queue.ready d false }; kinds = t.kinds; vacant = t.vacant } in
    subst (AreTurns i past p) (sym (same_turned new after queue kinds vacant)) (record {
      whole = record { groups = was.whole.groups; ready = length-set t.queue.ready d false ∙ was.whole.ready; parked = was.whole.parked; park = was.whole.park };
      kinds = was.kinds;
      listed = record {
        each = λ k ready. elim (cases_eq k d) [
          | inl same ↦ absurd (unready (subst (board.IsReady p) same ready))
          | inr apart ↦ get_or-set_other t.queue.ready d k false false apart ∙ was.listed.each k ready
        ];
      };
      waits = record { each = was.waits.each };
      vacant = was.vacant;
    })

-- turns for which builders were looked at
pub turns_searched : (i : Premises) (past : List Entry) (p : Progress) (t new : Turned) → HasSearched i past t new → AreTurns i past p t → AreTurns i past p new
turns_searched i past p t new searched was =
    let after : Turned = record { queue = t.queue; kinds = t.kinds; vacant = new.vacant } in
    let park = was.kinds.park in
    let sized = searched.vacant.sized in
    subst (AreTurns i past p) (sym (same_turned new after searched.queue searched.kinds refl)) (record {
      whole = record { groups = was.whole.groups; ready = was.whole.ready; parked = was.whole.parked; park = omega (arith, park, sized) };
      kinds = was.kinds;
      listed = was.listed;
      waits = record { each = was.waits.each };
      vacant = searched.vacant;
    })

-- turns in which the kind of a derivation, which is to wait, is passed over
pub turns_parked : (i : Premises) (past : List Entry) (p : Progress) (t new : Turned) (d : ℕ) → new.kinds ≡ t.kinds → new.vacant ≡ t.vacant → new.queue ≡ record t.queue { parked = set t.queue.parked (number_of t.kinds d) true }
    → HasDecisionByKind i past t.kinds d Wait → AreTurns i past p t → AreTurns i past p new
turns_parked i past p t new d kinds vacant queue wait was =
    let n = number_of t.kinds d in
    let after : Turned = record { queue = record t.queue { parked = set t.queue.parked n true }; kinds = t.kinds; vacant = t.vacant } in
    subst (AreTurns i past p) (sym (same_turned new after queue kinds vacant)) (record {
      whole = record { groups = was.whole.groups; ready = was.whole.ready; parked = length-set t.queue.parked n true ∙ was.whole.parked; park = was.whole.park };
      kinds = was.kinds;
      listed = record { each = was.listed.each };
      waits = record {
        each = λ m other stands up. elim (cases_eq m n) [
          | inl same ↦ wait.each other (subst (λ (k : ℕ). slice_get t.kinds.kinds k ≡ Some other) same stands)
          | inr apart ↦ was.waits.each m other stands (sym (get_or-set_other t.queue.parked n m true false apart) ∙ up)
        ];
      };
      vacant = was.vacant;
    })

-- ---- a derivation that isn't due has no step

pub drvs_needs : (i : Premises) → IsSound i.graph → length i.graph.needs ≡ drvs_in i
drvs_needs i sound = sound.needs_sized ∙ (sym sound.inputs_sized ∙ sym (length-map i.graph.inputs nodes_of))

need_at : (i : Premises) (d : ℕ) → d < length i.graph.needs → (need : Need) × (slice_get i.graph.needs d ≡ Some need)
need_at i d lt = elim ((slice_get_cases i.graph.needs d).1) [
  | inl there ↦ (there.0, there.2)
  | inr past ↦ absurd (omega (arith, lt, past.0))
]

flag_cases : (b : Bool) → (b ≡ true) ⊎ (b ≡ false)
flag_cases true = inl refl
flag_cases false = inr refl

-- a ready derivation that isn't due is to wait
waits_undue : (i : Premises) (past : List Entry) (p : Progress) (t : Turned) → IsSound i.graph → IsLegal i past → AreMarked i past p → AreTurns i past p t → (d : ℕ) → (IsDue t.queue d → ⊥) → IsReady i past d → HasDecision i past d Wait
waits_undue i past p t sound legal marked was d undue ready =
    let member = was.listed.each d (ready_marked i past p legal marked d ready) in
    let number : group_in t.queue.groups d ≡ number_of t.kinds d = ap (λ (xs : List ℕ). get_or xs d 0) was.whole.groups in
    let lt : d < length i.graph.needs = (let node = ready.node in let same = drvs_needs i sound in omega (arith, node, same)) in
    let need = need_at i d lt in
    let has = was.kinds.kinds.each d need.0 lt need.1 in
    elim (flag_cases (is_parked t (number_of t.kinds d))) [
      | inl parked ↦ kind_decides i past d need.0 has.kind Wait need.1 has.fits (was.waits.each (number_of t.kinds d) has.kind has.at parked)
      | inr awake ↦ absurd (undue (record { ready = member; awake = ap (λ (n : ℕ). get_or t.queue.parked n false) number ∙ awake }))
    ]

pub rest_undue : (i : Premises) (past : List Entry) (p : Progress) (t : Turned) → IsSound i.graph → IsLegal i past → AreMarked i past p → AreTurns i past p t → (d : ℕ) → (IsDue t.queue d → ⊥) → IsAtRest i past d
rest_undue i past p t sound legal marked was d undue = record {
  rests = λ e step.
      let ready = step_ready i past d e step in
      (rest_waiting i past d (waits_undue i past p t sound legal marked was d undue ready)).rests e step;
  waits = waits_undue i past p t sound legal marked was d undue;
}

-- where none is due there is no step left
pub rest_all : (i : Premises) (past : List Entry) (p : Progress) (t : Turned) → IsSound i.graph → IsLegal i past → AreMarked i past p → AreTurns i past p t → ((d : ℕ) → IsDue t.queue d → ⊥) → AreAtRest i past
rest_all i past p t sound legal marked was none = record { each = λ d. rest_undue i past p t sound legal marked was d (none d) }

-- the step of the first derivation that is due is the pump's
pub first_step : (i : Premises) (past : List Entry) (p : Progress) (t : Turned) (d : ℕ) (e : Entry) → IsSound i.graph → IsLegal i past → AreMarked i past p → AreTurns i past p t → IsLeastDue t.queue d → IsStepOf i past d e → IsPumpStep i past e
first_step i past p t d e sound legal marked was least step = record { drv = d; step = step; first = λ k lt. rest_undue i past p t sound legal marked was k (least.least k lt) }

-- ---- what a turn asks for

-- a derivation that is listed is one of the graph
pub listed_within : (i : Premises) (past : List Entry) (p : Progress) (t : Turned) (d : ℕ) → IsSound i.graph → AreTurns i past p t → IsDue t.queue d → d < length i.graph.needs
listed_within i past p t d sound was due =
    let lt = IsMember-within t.queue.ready d due.ready in
    let whole = was.whole.ready in
    let sized = was.kinds.sized in
    omega (arith, lt, whole, sized)

pub kind_ranged : (i : Premises) (need : Need) (kind : Kind) → IsKindOf i.machines i.local need kind → All (λ p. p < length i.machines) kind.places
kind_ranged i need kind fits =
    All-from_get_or (λ (p : ℕ). p < length i.machines) kind.places 0 (λ k lt. eligible_within i.machines need (get_or kind.places k 0) ((fits.eligible.exact (get_or kind.places k 0)).0 (Contains-get_or kind.places k 0 lt)))

-- the kind that stands under a derivation's number is that of its need
pub kind_named : (i : Premises) (inside now : Turned) (d : ℕ) (need : Need) (kind : Kind) → inside ≡ now → AreKinds i.machines i.local i.graph.needs now.kinds → slice_get i.graph.needs d ≡ Some need → slice_get inside.kinds.kinds (number_of inside.kinds d) ≡ Some kind
    → IsKindOf i.machines i.local need kind
kind_named i inside now d need kind is are is_need at =
    kind_suits i.machines i.local i.graph.needs inside.kinds d need kind (subst (λ (t : Turned). AreKinds i.machines i.local i.graph.needs t.kinds) (sym is) are) is_need at

-- the kind of a derivation that is due wasn't passed over, and builders are looked at before it is
pub left_waiting : (i : Premises) (past : List Entry) (p : Progress) (t mid new : Turned) (d : ℕ) → IsSound i.graph → AreTurns i past p t → IsDue t.queue d → HasSearched i past t mid
    → new.queue ≡ record mid.queue { parked = set mid.queue.parked (number_of mid.kinds d) true } → left_in new.queue < left_in t.queue
left_waiting i past p t mid new d sound was due searched is =
    let number : group_in t.queue.groups d ≡ number_of t.kinds d = ap (λ (xs : List ℕ). get_or xs d 0) was.whole.groups in
    let lt = listed_within i past p t d sound was due in
    let need = need_at i d lt in
    let has = was.kinds.kinds.each d need.0 lt need.1 in
    let within = slice_get_within t.kinds.kinds (number_of t.kinds d) has.kind has.at in
    let same = was.whole.parked in
    let parks : new.queue ≡ record t.queue { parked = set t.queue.parked (number_of t.kinds d) true } =
    is ∙ (ap (λ (q : Queued). record q { parked = set q.parked (number_of mid.kinds d) true }) searched.queue
    ∙ ap (λ (k : Kinded). record t.queue { parked = set t.queue.parked (number_of k d) true }) searched.kinds) in
    left_parked t new (number_of t.kinds d) parks (omega (arith, within, same)) (ap (λ (n : ℕ). get_or t.queue.parked n false) (sym number) ∙ due.awake)
