-- When a derivation has a step, and which.
use Rattle.std.proofs.Common.{◌≡◌, ℕ, zero, suc, ◌+◌, ◌<◌, ◌≤◌, Bool, true, false, not, ◌==◌, ◌||◌, ◌-◌, eq-eqb, List, [], ◌∷◌, ◌++◌, length, length-append, reverse, append-nil, append_assoc, if◌then◌else◌, refl, sym, ap, ◌∙◌, subst, arith, inl, inr, Option, Some, add-one, get_or}
use Rattle.std.proofs.lemmas.Bool.{cases_eq}
use Rattle.std.specs.Option.{IsSomeAnd, option_map_or}
use Rattle.std.proofs.lemmas.Option.{slice_get_cases, slice_get_read}
use Rattle.nd_machines.specs.Builders.{Builder}
use Rattle.nd_eligible.specs.Eligibility.{Eligible}
use Rattle.nd_choose.specs.Best.{jobs_at}
use Rattle.nd_hook.specs.declared.kinds.Decision.TheVariants.{Local, Remote, Wait, NoBuilder as NobodyBuilds}
use Rattle.nd_history.specs.declared.entry.Entry.{Entry}
use Rattle.nd_history.specs.declared.entry.Entry.TheVariants.{Chosen, NoBuilder, Started, Down, Built, Failed, Stop, Drain, Enable}
use Rattle.nd_history.specs.Premises.{Premises}
use Rattle.nd_history.specs.History.{is_built, is_failed, is_leased}
use Rattle.nd_history.specs.Standing.{drvs_in, IsReady}
use Rattle.nd_history.specs.Choices.{jobs_of, HasDecision, IsBestFor}
use Rattle.nd_history.specs.Legal.{IsPlaceFor, IsLeastFree}
use Rattle.nd_history.specs.Pumping.{IsStepOf, IsAtRest, IsPumpStep, ArePumpSteps, HasPumped, is_open}
use Rattle.nd_history.proofs.OneChoice.{decision_once, remote_best}

some_drv : (a b : ℕ) → Some a ≡ Some b → a ≡ b
some_drv a b h = cc

-- what has a step is ready
pub step_ready : (i : Premises) (past : List Entry) (d : ℕ) (e : Entry) → IsStepOf i past d e → IsReady i past d
step_ready i past d (Chosen k m s) step = subst (IsReady i past) (some_drv k d step.about) step.allowed.may.ready
step_ready i past d (NoBuilder k) step = subst (IsReady i past) (some_drv k d step.about) step.allowed.may.ready
step_ready i past d (Started k paths) step = let h = step.about in cc
step_ready i past d (Down k) step = let h = step.about in cc
step_ready i past d (Built k refs) step = let h = step.about in cc
step_ready i past d (Failed k why) step = let h = step.about in cc
step_ready i past d Stop step = let h = step.about in cc
step_ready i past d (Drain m) step = let h = step.about in cc
step_ready i past d (Enable m) step = let h = step.about in cc

pub rest_unready : (i : Premises) (past : List Entry) (d : ℕ) → (IsReady i past d → ⊥) → IsAtRest i past d
rest_unready i past d unready = record {
  rests = λ e step. unready (step_ready i past d e step);
  waits = λ (ready : IsReady i past d). absurd (unready ready);
}

place_no_wait : (i : Premises) (past : List Entry) (d m : ℕ) → IsPlaceFor i past d m → HasDecision i past d Wait → ⊥
place_no_wait i past d zero place wait = let same = decision_once i past d Local Wait place wait in cc
place_no_wait i past d (suc p) place wait = let same = decision_once i past d (Remote place.0.place) Wait place.0.decided wait in cc

-- what is to wait has no step
step_no_wait : (i : Premises) (past : List Entry) (d : ℕ) (e : Entry) → IsStepOf i past d e → HasDecision i past d Wait → ⊥
step_no_wait i past d (Chosen k m s) step wait =
    let P : ℕ → Type 0 = λ x. HasDecision i past x Wait in
    place_no_wait i past k m step.allowed.may.place (subst P (sym (some_drv k d step.about)) wait)
step_no_wait i past d (NoBuilder k) step wait =
    let P : ℕ → Type 0 = λ x. HasDecision i past x Wait in
    let same = decision_once i past k NobodyBuilds Wait step.allowed.may.nobody (subst P (sym (some_drv k d step.about)) wait) in
    cc
step_no_wait i past d (Started k paths) step wait = let h = step.about in cc
step_no_wait i past d (Down k) step wait = let h = step.about in cc
step_no_wait i past d (Built k refs) step wait = let h = step.about in cc
step_no_wait i past d (Failed k why) step wait = let h = step.about in cc
step_no_wait i past d Stop step wait = let h = step.about in cc
step_no_wait i past d (Drain m) step wait = let h = step.about in cc
step_no_wait i past d (Enable m) step wait = let h = step.about in cc

pub rest_waiting : (i : Premises) (past : List Entry) (d : ℕ) → HasDecision i past d Wait → IsAtRest i past d
rest_waiting i past d wait = record {
  rests = λ e step. step_no_wait i past d e step wait;
  waits = λ (ready : IsReady i past d). wait;
}

-- the step where the local machine is decided on
pub step_local : (i : Premises) (past : List Entry) (d s : ℕ) → IsReady i past d → HasDecision i past d Local → s < i.local.jobs → IsLeastFree past 0 s → IsStepOf i past d (Chosen d 0 s)
step_local i past d s ready decided lt least = record {
  about = refl;
  allowed = record { ranged = (ready.node, omega arith, lt); may = record { ready = ready; place = decided; slot = least } };
}

placed : (i : Premises) (past : List Entry) (d p m : ℕ) → HasDecision i past d (Remote p) → m ≡ suc p → IsPlaceFor i past d m
placed i past d p m decided is =
    let P : ℕ → Type 0 = λ x. IsPlaceFor i past d x in
    subst P (sym is) (record { place = p; decided = decided }, remote_best i past d p decided)

slot_ranged : (i : Premises) (p m s : ℕ) → m ≡ suc p → s < jobs_of i (suc p) → s < jobs_of i m
slot_ranged i p m s is lt = let P : ℕ → Type 0 = λ x. s < jobs_of i x in subst P (sym is) lt

-- the step where a builder is decided on
pub step_remote : (i : Premises) (past : List Entry) (d p m s : ℕ) → IsReady i past d → HasDecision i past d (Remote p) → p < length i.machines → m ≡ p + 1 → s < jobs_of i (suc p) → IsLeastFree past m s → IsStepOf i past d (Chosen d m s)
step_remote i past d p m s ready decided lt is jobs least =
    let next : m ≡ suc p = is ∙ add-one p in
    record {
      about = refl;
      allowed = record { ranged = (ready.node, omega arith, slot_ranged i p m s next jobs); may = record { ready = ready; place = placed i past d p m decided next; slot = least } };
    }

-- the step where nothing can build it
pub step_nobody : (i : Premises) (past : List Entry) (d : ℕ) → IsReady i past d → HasDecision i past d NobodyBuilds → IsStepOf i past d (NoBuilder d)
step_nobody i past d ready decided = record { about = refl; allowed = record { ranged = ready.node; may = record { ready = ready; nobody = decided } } }

-- a machine that is decided on is one of the list
pub place_ranged : (i : Premises) (past : List Entry) (d p : ℕ) → IsBestFor i past d p → p < length i.machines
place_ranged i past d p best =
    elim (slice_get_cases i.machines p).1 [
      | inl there ↦ there.1
      | inr gone ↦
          let P : Option Builder → Type 0 = λ o. IsSomeAnd o (λ machine. Eligible machine best.need) in
          absurd (subst P gone.1 best.best.candidate.meant)
    ]

-- .. so that of a decision is
pub decided_ranged : (i : Premises) (past : List Entry) (d p : ℕ) → HasDecision i past d (Remote p) → p < length i.machines
decided_ranged i past d p decided = place_ranged i past d p (remote_best i past d p decided)

-- a machine that was read has so many jobs
pub jobs_read : (machines : List Builder) (p : ℕ) (m : Builder) → p < length machines → m ≡ get_or machines p m → jobs_at machines p ≡ m.jobs
jobs_read machines p m lt is = ap (λ (o : Option Builder). option_map_or (λ machine. machine.jobs) o 0) (slice_get_read machines (length machines) p m refl lt is)

-- ---- lists of steps

-- one more step
pub pump_more : (i : Premises) (history steps : List Entry) (e : Entry) → ArePumpSteps i history steps → IsPumpStep i (reverse (history ++ steps)) e → ArePumpSteps i history (steps ++ e ∷ [])
pump_more i history [] e are step =
    let P : List Entry → Type 0 = λ es. IsPumpStep i (reverse es) e in
    (subst P (append-nil history) step, tt)
pump_more i history (s ∷ steps) e are step =
    let P : List Entry → Type 0 = λ es. IsPumpStep i (reverse es) e in
    (are.0, pump_more i (history ++ s ∷ []) steps e are.1 (subst P (sym (append_assoc history (s ∷ []) steps)) step))

-- the history after a step more
pub pumped_more : (i : Premises) (old new longer : List Entry) (e : Entry) → HasPumped i old new → longer ≡ new ++ e ∷ [] → IsPumpStep i (reverse new) e → HasPumped i old longer
pumped_more i old new longer e was is step =
    let P : List Entry → Type 0 = λ es. IsPumpStep i (reverse es) e in
    record {
      steps = was.steps ++ e ∷ [];
      grown = is ∙ ap (λ es. es ++ e ∷ []) was.grown ∙ append_assoc old was.steps (e ∷ []);
      each = pump_more i old was.steps e was.each (subst P was.grown step);
    }

-- no step yet
pub pumped_none : (i : Premises) (old : List Entry) → HasPumped i old old
pumped_none i old = record { steps = []; grown = sym (append-nil old); each = tt }

-- ---- each step leaves one derivation fewer of which nothing was said

unfoldable pub open_bit : Bool → ℕ
open_bit b = if b then 1 else 0

-- how many of the first n derivations are open
unfoldable pub open_count : List Entry → ℕ → ℕ
open_count past zero = 0
open_count past (suc n) = open_count past n + open_bit (is_open past n)

bit_le : (a b : Bool) → (a ≡ true → b ≡ true) → open_bit a ≤ open_bit b
unfolding open_bit
bit_le true b h = rw (h refl) (omega arith)
bit_le false b h = omega arith

pub opens_le : (past : List Entry) (e : Entry) (n : ℕ) → ((k : ℕ) → is_open (e ∷ past) k ≡ true → is_open past k ≡ true) → open_count (e ∷ past) n ≤ open_count past n
unfolding open_count
opens_le past e zero h = omega arith
opens_le past e (suc n) h =
    let le = opens_le past e n h in
    let bit = bit_le (is_open (e ∷ past) n) (is_open past n) (h n) in
    omega arith

pub opens_lt : (past : List Entry) (e : Entry) (n d : ℕ) → d < n → ((k : ℕ) → is_open (e ∷ past) k ≡ true → is_open past k ≡ true) → is_open past d ≡ true → is_open (e ∷ past) d ≡ false → open_count (e ∷ past) n < open_count past n
unfolding open_count open_bit
opens_lt past e zero d lt h was now = omega arith
opens_lt past e (suc n) d lt h was now =
    elim (cases_eq d n) [
      | inl same ↦
          let le = opens_le past e n h in
          let P : ℕ → Type 0 = λ x. is_open past x ≡ true in
          let Q : ℕ → Type 0 = λ x. is_open (e ∷ past) x ≡ false in
          rw (subst P same was, subst Q same now) (omega arith)
      | inr other ↦
          let rest = opens_lt past e n d (omega arith) h was now in
          let bit = bit_le (is_open (e ∷ past) n) (is_open past n) (h n) in
          omega (arith, bit)
    ]

open_less : (a f b l : Bool) → not (a || (f || (b || l))) ≡ true → not (a || (f || l)) ≡ true
open_less true f b l h = cc
open_less false true b l h = cc
open_less false false true l h = cc
open_less false false false l h = h

open_still : (a b f l : Bool) → not (a || ((b || f) || l)) ≡ true → not (a || (f || l)) ≡ true
open_still true b f l h = cc
open_still false true f l h = cc
open_still false false f l h = h

all_open : (a f l : Bool) → a ≡ false → f ≡ false → l ≡ false → not (a || (f || l)) ≡ true
all_open a f l x y z = rw (x, y, z) refl

shut_leased : (a f b l : Bool) → b ≡ true → not (a || (f || (b || l))) ≡ false
shut_leased true f b l h = refl
shut_leased false true b l h = refl
shut_leased false false b l h = rw h refl

shut_failed : (a b f l : Bool) → b ≡ true → not (a || ((b || f) || l)) ≡ false
shut_failed true b f l h = refl
shut_failed false b f l h = rw h refl

was_open : (i : Premises) (past : List Entry) (d : ℕ) → IsReady i past d → is_open past d ≡ true
was_open i past d ready = all_open (is_built d past) (is_failed d past) (is_leased d past) ready.waiting.free.unbuilt ready.waiting.free.unfailed ready.waiting.free.unleased

fewer_open : (i : Premises) (past : List Entry) (d : ℕ) (e : Entry) → IsStepOf i past d e → open_count (e ∷ past) (drvs_in i) < open_count past (drvs_in i)
fewer_open i past d (Chosen k m s) step =
    let ready = step.allowed.may.ready in
    opens_lt past (Chosen k m s) (drvs_in i) k ready.node
    (λ x h. open_less (is_built x past) (is_failed x past) (x == k) (is_leased x past) h)
    (was_open i past k ready)
    (shut_leased (is_built k past) (is_failed k past) (k == k) (is_leased k past) (eq-eqb k k refl))
fewer_open i past d (NoBuilder k) step =
    let ready = step.allowed.may.ready in
    opens_lt past (NoBuilder k) (drvs_in i) k ready.node
    (λ x h. open_still (is_built x past) (x == k) (is_failed x past) (is_leased x past) h)
    (was_open i past k ready)
    (shut_failed (is_built k past) (k == k) (is_failed k past) (is_leased k past) (eq-eqb k k refl))
fewer_open i past d (Started k paths) step = let h = step.about in cc
fewer_open i past d (Down k) step = let h = step.about in cc
fewer_open i past d (Built k refs) step = let h = step.about in cc
fewer_open i past d (Failed k why) step = let h = step.about in cc
fewer_open i past d Stop step = let h = step.about in cc
fewer_open i past d (Drain m) step = let h = step.about in cc
fewer_open i past d (Enable m) step = let h = step.about in cc

-- a step leaves fewer derivations open
pub pump_smaller : (i : Premises) (past : List Entry) (e : Entry) (newer : List Entry) → newer ≡ e ∷ past → IsPumpStep i past e → open_count newer (drvs_in i) < open_count past (drvs_in i)
pump_smaller i past e newer is step =
    let P : List Entry → Type 0 = λ es. open_count es (drvs_in i) < open_count past (drvs_in i) in
    subst P (sym is) (fewer_open i past step.drv e step.step)

-- how many steps were made
pub pump_counted : (old new before after steps : List Entry) → after ≡ new → before ≡ old → new ≡ old ++ steps → length steps ≡ length after - length before
pump_counted old new before after steps a b grown =
    let long : length after ≡ length old + length steps = ap length (a ∙ grown) ∙ length-append old steps in
    let short : length before ≡ length old = ap length b in
    omega arith
