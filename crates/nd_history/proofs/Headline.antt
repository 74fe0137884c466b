-- The claims hold of every legal history.
use Rattle.std.proofs.Common.{◌≡◌, ℕ, zero, suc, ◌<◌, Bool, true, false, not, ◌==◌, ◌&&◌, ◌||◌, cond, List, [], ◌∷◌, length, refl, sym, ap, ◌∙◌, subst, inl, inr, Some}
use Rattle.std.proofs.lemmas.Bool.{and_parts, or_cases, or_right}
use Rattle.std.specs.List.{list_any, filter, find}
use Rattle.nd_history.specs.declared.entry.Entry.{Entry}
use Rattle.nd_history.specs.declared.entry.Entry.TheVariants.{Chosen, NoBuilder, Started, Down, Built, Failed, Stop, Drain, Enable}
use Rattle.nd_leases.specs.declared.ticket.Ticket.{Ticket}
use Rattle.nd_history.specs.Premises.{Premises}
use Rattle.nd_history.specs.History.{live, is_taken}
use Rattle.nd_leases.specs.Tickets.{is_on}
use Rattle.nd_history.specs.Choices.{jobs_of}
use Rattle.nd_history.specs.Legal.{IsLegal, IsPlaceFor}
use Rattle.nd_history.specs.Headline.{SlotsAreLeases, LeasesAreInOrder, StartsAreEligible, IsChosenIn, IsFitFor, ChoicesAreBest}
use Rattle.nd_history.proofs.Legality.{allowed_at}
use Rattle.nd_history.proofs.OneChoice.{local_free}
use Rattle.nd_history.proofs.Slots.{lease_once, slot_once, load_within, same_of}

-- ---- slots are leases

-- what is among fewer is among all
any_kept : {X : Type 0} → (p q : X → Bool) (x : X) (xs : List X) (b : Bool) → list_any p (cond b (x ∷ filter q xs) (filter q xs)) ≡ true → (list_any p (filter q xs) ≡ true → list_any p xs ≡ true) → (p x || list_any p xs) ≡ true
any_kept p q x xs true h rest = elim (or_cases (p x) (list_any p (filter q xs)) h) [ inl here ↦ rw here refl | inr there ↦ or_right (p x) (list_any p xs) (rest there) ]
any_kept p q x xs false h rest = or_right (p x) (list_any p xs) (rest h)

any_filter : {X : Type 0} → (p q : X → Bool) (xs : List X) → list_any p (filter q xs) ≡ true → list_any p xs ≡ true
any_filter p q [] h = cc
any_filter p q (x ∷ xs) h = any_kept p q x xs (q x) h (any_filter p q xs)

pub taken_ranged : (i : Premises) (past : List Entry) → IsLegal i past → (m s : ℕ) → is_taken m s past ≡ true → s < jobs_of i m
taken_ranged i [] legal m s h = cc
taken_ranged i (Chosen e n k ∷ past) legal m s h =
    elim (or_cases ((m == n) && (s == k)) (is_taken m s past) h) [
      | inl here ↦
          let two = and_parts (m == n) (s == k) here in
          let P : ℕ → Type 0 = λ x. k < jobs_of i x in
          let Q : ℕ → Type 0 = λ x. x < jobs_of i m in
          subst Q (sym (same_of s k two.1)) (subst P (sym (same_of m n two.0)) legal.0.ranged.2)
      | inr before ↦ taken_ranged i past legal.1 m s before
    ]
taken_ranged i (Down e ∷ past) legal m s h = taken_ranged i past legal.1 m s (any_filter (is_on m s) (λ (t : Ticket). not (e == t.drv)) (live past) h)
taken_ranged i (Built e refs ∷ past) legal m s h = taken_ranged i past legal.1 m s (any_filter (is_on m s) (λ (t : Ticket). not (e == t.drv)) (live past) h)
taken_ranged i (Failed e why ∷ past) legal m s h = taken_ranged i past legal.1 m s (any_filter (is_on m s) (λ (t : Ticket). not (e == t.drv)) (live past) h)
taken_ranged i (NoBuilder e ∷ past) legal m s h = taken_ranged i past legal.1 m s h
taken_ranged i (Started e paths ∷ past) legal m s h = taken_ranged i past legal.1 m s h
taken_ranged i (Stop ∷ past) legal m s h = taken_ranged i past legal.1 m s h
taken_ranged i (Drain n ∷ past) legal m s h = taken_ranged i past legal.1 m s h
taken_ranged i (Enable n ∷ past) legal m s h = taken_ranged i past legal.1 m s h

pub slots_are_leases : (i : Premises) (past : List Entry) → IsLegal i past → SlotsAreLeases i past
slots_are_leases i past legal = record { once = slot_once i past legal; ranged = taken_ranged i past legal; within = load_within i past legal }

-- ---- one lease, inputs first

pub leases_are_in_order : (i : Premises) (past : List Entry) → IsLegal i past → LeasesAreInOrder i past
leases_are_in_order i past legal = record {
  once = lease_once i past legal;
  inputs = λ later before d m s is. (allowed_at i later before past (Chosen d m s) is legal).0.may.ready.inputs;
}

-- ---- where a live lease comes from

-- an entry before a place leaves what stands there
later_on : (past : List Entry) (e : Entry) (t : Ticket) → IsChosenIn past t → IsChosenIn (e ∷ past) t
later_on past e t was = record { later = e ∷ was.later; before = was.before; place = ap (λ xs. e ∷ xs) was.place; serial = was.serial }

find_step : {X : Type 0} → (p q : X → Bool) (x : X) (xs : List X) (b c : Bool) → b ≡ q x → c ≡ p x → find p (filter q xs) ≡ find (λ x. q x && p x) xs → find p (cond b (x ∷ filter q xs) (filter q xs)) ≡ cond (b && c) (Some x) (find (λ x. q x && p x) xs)
find_step p q x xs true c is also rest = rw (← also) (ap (λ o. cond c (Some x) o) rest)
find_step p q x xs false c is also rest = rest

-- looking among fewer is looking for one of them
find_filter : {X : Type 0} → (p q : X → Bool) (xs : List X) → find p (filter q xs) ≡ find (λ x. q x && p x) xs
find_filter p q [] = refl
find_filter p q (x ∷ xs) = find_step p q x xs (q x) (p x) refl refl (find_filter p q xs)

some_of : (a b : Ticket) → Some a ≡ Some b → a ≡ b
some_of a b h = cc

chosen_step : (e m s : ℕ) (past : List Entry) (p : Ticket → Bool) (t : Ticket) (b : Bool) → cond b (Some (record { machine = m; slot = s; drv = e; serial = length past })) (find p (live past)) ≡ Some t → (find p (live past) ≡ Some t → IsChosenIn past t) → IsChosenIn (Chosen e m s ∷ past) t
chosen_step e m s past p t true h rest =
    let P : Ticket → Type 0 = λ x. IsChosenIn (Chosen e m s ∷ past) x in
    subst P (some_of (record { machine = m; slot = s; drv = e; serial = length past }) t h) (record { later = []; before = past; place = refl; serial = refl })
chosen_step e m s past p t false h rest = later_on past (Chosen e m s) t (rest h)

-- each live lease that a test finds was chosen in the history
pub chosen_in : (past : List Entry) (p : Ticket → Bool) (t : Ticket) → find p (live past) ≡ Some t → IsChosenIn past t
chosen_in [] p t h = cc
chosen_in (Chosen e m s ∷ past) p t h = chosen_step e m s past p t (p (record { machine = m; slot = s; drv = e; serial = length past })) h (chosen_in past p t)
chosen_in (Down e ∷ past) p t h = later_on past (Down e) t (chosen_in past (λ x. not (e == x.drv) && p x) t (sym (find_filter p (λ (x : Ticket). not (e == x.drv)) (live past)) ∙ h))
chosen_in (Built e refs ∷ past) p t h = later_on past (Built e refs) t (chosen_in past (λ x. not (e == x.drv) && p x) t (sym (find_filter p (λ (x : Ticket). not (e == x.drv)) (live past)) ∙ h))
chosen_in (Failed e why ∷ past) p t h = later_on past (Failed e why) t (chosen_in past (λ x. not (e == x.drv) && p x) t (sym (find_filter p (λ (x : Ticket). not (e == x.drv)) (live past)) ∙ h))
chosen_in (NoBuilder e ∷ past) p t h = later_on past (NoBuilder e) t (chosen_in past p t h)
chosen_in (Started e paths ∷ past) p t h = later_on past (Started e paths) t (chosen_in past p t h)
chosen_in (Stop ∷ past) p t h = later_on past Stop t (chosen_in past p t h)
chosen_in (Drain n ∷ past) p t h = later_on past (Drain n) t (chosen_in past p t h)
chosen_in (Enable n ∷ past) p t h = later_on past (Enable n) t (chosen_in past p t h)

-- ---- eligible

place_fits : (i : Premises) (past : List Entry) (d m : ℕ) → IsPlaceFor i past d m → IsFitFor i d m
place_fits i past d zero place = let free = local_free i past d place in record { need = place.need; needs = place.needs; fit = (free.home.ok, free.home.jobs) }
place_fits i past d (suc p) place = record { need = place.1.need; needs = place.1.needs; fit = place.1.best.candidate.meant }

pub chosen_fits : (i : Premises) (past : List Entry) → IsLegal i past → (t : Ticket) → IsChosenIn past t → IsFitFor i t.drv t.machine
chosen_fits i past legal t chosen =
    place_fits i chosen.before t.drv t.machine (allowed_at i chosen.later chosen.before past (Chosen t.drv t.machine t.slot) chosen.place legal).0.may.place

pub starts_are_eligible : (i : Premises) (past : List Entry) → IsLegal i past → StartsAreEligible i past
starts_are_eligible i past legal = record {
  starts = λ later before d paths is.
      let at = allowed_at i later before past (Started d paths) is legal in
      let chosen = chosen_in before (λ t. d == t.drv) at.0.may.ticket at.0.may.live in
      record { ticket = at.0.may.ticket; live = at.0.may.live; chosen = chosen; fit = chosen_fits i before at.1 at.0.may.ticket chosen };
}

-- ---- least-loaded choice

pub choices_are_best : (i : Premises) (past : List Entry) → IsLegal i past → ChoicesAreBest i past
choices_are_best i past legal = record {
  best = λ later before d p s is. (allowed_at i later before past (Chosen d (suc p) s) is legal).0.may.place.1;
  home = λ later before d s is.
      let decided = (allowed_at i later before past (Chosen d 0 s) is legal).0.may.place in
      (decided, (local_free i before d decided).slot);
}
