-- The builders that may have a free slot follow a history: an entry gives no free slot to a machine that it doesn't touch.
use Rattle.std.proofs.Common.{◌≡◌, ◌∙◌, ◌⊎◌, inl, inr, ℕ, ◌+◌, ◌<◌, Bool, true, false, List, ◌∷◌, Option, None, Some, length, sym, ap, subst, arith, slice_get}
use Rattle.std.specs.Prelude.{slice_set}
use Rattle.std.specs.Option.{option_map_or}
use Rattle.std.proofs.lemmas.Bool.{cases_eq}
use Rattle.std.proofs.lemmas.Option.{slice_get_cases}
use Rattle.std.proofs.Math.ListN.{length-set}
use Rattle.std.proofs.lemmas.List.{get_or-set_same, get_or-set_other}
use Rattle.nd_machines.specs.Builders.{Builder}
use Rattle.nd_flags.specs.Members.{IsMember}
use Rattle.nd_choose.specs.Best.{IsFree, load_at}
use Rattle.nd_history.specs.declared.entry.Entry.{Entry}
use Rattle.nd_history.specs.Premises.{Premises}
use Rattle.nd_history.specs.Choices.{loads_of, ups_of}
use Rattle.nd_history.specs.Legal.{IsLegal, IsAllowed}
use Rattle.nd_history.proofs.OneChoice.{load_at_place}
use Rattle.nd_pump.specs.Turned.{touched}
use Rattle.nd_pump.specs.Vacancies.{AreVacant, AreVacantTo, AreAllVacant, HasOpened}
use Rattle.nd_pump.proofs.Waiting.{up_at_place}
use Rattle.nd_pump.proofs.Steady.{steady_but}

-- a builder with a free slot is in the list
no_jobs : (o : Option Builder) (n : ℕ) → n < option_map_or (λ (b : Builder). b.jobs) o 0 → o ≡ None → ⊥
no_jobs o n lt none = let at : n < 0 = rw none at lt in omega (arith, at)

pub free_within : (machines : List Builder) (loads : List ℕ) (ups : List Bool) (p : ℕ) → IsFree machines loads ups p → p < length machines
free_within machines loads ups p free = elim ((slice_get_cases machines p).1) [
  | inl found ↦ found.1
  | inr past ↦ absurd (no_jobs (slice_get machines p) (load_at loads p) free.slot past.1)
]

-- a machine that the entry doesn't touch has no free slot but one that it had
pub free_before : (i : Premises) (past : List Entry) (e : Entry) (p : ℕ) → IsLegal i past → IsAllowed i e past → (touched e past ≡ Some (p + 1) → ⊥)
    → IsFree i.machines (loads_of i (e ∷ past)) (ups_of i (e ∷ past)) p → IsFree i.machines (loads_of i past) (ups_of i past) p
free_before i past e p legal allowed other free =
    let within = free_within i.machines (loads_of i (e ∷ past)) (ups_of i (e ∷ past)) p free in
    let steady = steady_but i past e (p + 1) legal allowed other in
    let heavier = steady.load in
    let slot = free.slot in
    let now = load_at_place i (e ∷ past) p within in
    let was = load_at_place i past p within in
    record {
      up = up_at_place i past p within ∙ (sym steady.up ∙ (sym (up_at_place i (e ∷ past) p within) ∙ free.up));
      slot = omega (arith, heavier, slot, now, was);
    }

-- whether the entry touches the machine
touches_or_not : (o : Option ℕ) (m : ℕ) → (o ≡ Some m) ⊎ (o ≡ Some m → ⊥)
touches_or_not None m = inr (λ is. let no_way : ⊥ = cc in no_way)
touches_or_not (Some n) m = elim (cases_eq n m) [
  | inl same ↦ inl (ap Some same)
  | inr differ ↦ inr (λ is. differ (let same : n ≡ m = cc in same))
]

opened_at : (o : Option ℕ) (p : ℕ) (old new : List Bool) → HasOpened o old new → o ≡ Some (p + 1) → IsMember new p
opened_at None p old new has is = let no_way : ⊥ = cc in absurd no_way
opened_at (Some m) p old new has is = has.opened p (let same : m ≡ p + 1 = cc in same)

pub vacant_after : (i : Premises) (past : List Entry) (e : Entry) (old new : List Bool) → IsLegal i past → IsAllowed i e past
    → AreVacant i past old → HasOpened (touched e past) old new → AreVacant i (e ∷ past) new
vacant_after i past e old new legal allowed was opened = record {
  sized = opened.sized ∙ was.sized;
  each = λ p free. elim (touches_or_not (touched e past) (p + 1)) [
    | inl touches ↦ opened_at (touched e past) p old new opened touches
    | inr other ↦ opened.kept p (was.each p (free_before i past e p legal allowed other free))
  ];
}

-- where each builder is among them, they follow any history
pub vacant_all : (i : Premises) (past : List Entry) (vacant : List Bool) → AreAllVacant (length i.machines) vacant → AreVacant i past vacant
vacant_all i past vacant all = record {
  sized = all.sized;
  each = λ p free. all.each p (free_within i.machines (loads_of i past) (ups_of i past) p free);
}

-- none is to be flagged before the first, and one more is
pub vacant_none : (builders : ℕ) (vacant : List Bool) → length vacant ≡ builders → AreVacantTo builders 0 vacant
vacant_none builders vacant sized = record { sized = sized; each = λ p lt. absurd (omega (arith, lt)) }

pub vacant_next : (builders n : ℕ) (old new : List Bool) → AreVacantTo builders n old → new ≡ slice_set old n true → n < builders → AreVacantTo builders (n + 1) new
vacant_next builders n old new was is lt = record {
  sized = ap length is ∙ (length-set old n true ∙ was.sized);
  each = λ p less. subst (λ (flags : List Bool). IsMember flags p) (sym is) (elim (cases_eq p n) [
    | inl same ↦ subst (λ (k : ℕ). IsMember (slice_set old n true) k) (sym same) (get_or-set_same old n true false (omega (arith, lt, was.sized)))
    | inr differ ↦ get_or-set_other old n p true false differ ∙ was.each p (omega (arith, less, differ))
  ]);
}
