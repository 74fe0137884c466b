-- What holds of the leases of every legal history: one for a derivation, one for a slot, and no more on a machine than it
-- may build at once.
use Rattle.std.proofs.Common.{◌≡◌, ℕ, zero, suc, ◌+◌, ◌<◌, ◌≤◌, Bool, true, false, not, ◌==◌, eqb, cond, List, [], ◌∷◌, length, map, count_by, refl, sym, ◌∙◌, subst, arith, inl, inr, add-one}
use Rattle.std.proofs.lemmas.Grind.{common_steps}
use Rattle.std.proofs.lemmas.Bool.{cases_eq, cases_lt, ne_eqb, and_parts}
use Rattle.std.proofs.lemmas.List.{length-map}
use Rattle.std.proofs.lemmas.List.Sums.{length-filter}
use Rattle.std.proofs.lemmas.Map.Steps.{le-length_from_below}
use Rattle.std.specs.List.{list_any, filter}
use Rattle.nd_history.specs.declared.entry.Entry.{Entry}
use Rattle.nd_history.specs.declared.entry.Entry.TheVariants.{Chosen, NoBuilder, Started, Down, Built, Failed, Stop, Drain, Enable}
use Rattle.nd_leases.specs.declared.ticket.Ticket.{Ticket}
use Rattle.nd_history.specs.Premises.{Premises}
use Rattle.nd_history.specs.History.{live, load, is_taken, is_leased}
use Rattle.nd_leases.specs.Tickets.{is_on}
use Rattle.nd_history.specs.Choices.{machines_in, jobs_of}
use Rattle.nd_history.specs.Legal.{IsAllowed, IsLegal, IsPlaceFor, IsLeastFree}
use Rattle.nd_history.proofs.OneChoice.{local_free, best_has_room}

-- one more item counts where it passes
pub count_cons : {X : Type 0} → (p : X → Bool) (x : X) (xs : List X) → count_by p (x ∷ xs) ≡ cond (p x) (count_by p xs + 1) (count_by p xs)
count_cons p x xs = grind (arith, common_steps)

-- none passes, so none is counted
pub none_counted : {X : Type 0} → (p : X → Bool) (xs : List X) → list_any p xs ≡ false → count_by p xs ≡ 0
none_counted p [] h = grind (arith, common_steps)
none_counted p (x ∷ xs) h = grind (arith, common_steps, none_counted p xs)

-- of fewer items no more pass
pub count_filter : {X : Type 0} → (p q : X → Bool) (xs : List X) → count_by p (filter q xs) ≤ count_by p xs
count_filter p q [] = grind (arith, common_steps)
count_filter p q (x ∷ xs) = grind (arith, common_steps, count_filter p q xs)

-- numbers that test equal are equal
pub same_of : (a b : ℕ) → (a == b) ≡ true → a ≡ b
same_of a b h = elim (cases_eq a b) [ inl same ↦ same | inr other ↦ let no_way : ⊥ = cc (ne_eqb a b other) in absurd no_way ]

within_more : (b : Bool) (n bound : ℕ) → (b ≡ true → n < bound) → n ≤ bound → cond b (n + 1) n ≤ bound
within_more true n bound h le = let lt : n < bound = h refl in omega arith
within_more false n bound h le = le

-- no more live leases pass than the bound says where each choice of one that passes finds fewer
live_within : (i : Premises) (p : Ticket → Bool) (bound : ℕ) → ((past : List Entry) (d m s : ℕ) → IsAllowed i (Chosen d m s) past → p (record { machine = m; slot = s; drv = d; serial = length past }) ≡ true → count_by p (live past) < bound) → (past : List Entry) → IsLegal i past → count_by p (live past) ≤ bound
live_within i p bound fewer [] legal = grind (arith, common_steps)
live_within i p bound fewer (Chosen d m s ∷ past) legal =
    let t : Ticket = record { machine = m; slot = s; drv = d; serial = length past } in
    rw (count_cons p t (live past)) (within_more (p t) (count_by p (live past)) bound (fewer past d m s legal.0) (live_within i p bound fewer past legal.1))
live_within i p bound fewer (Down d ∷ past) legal = let less = count_filter p (λ (t : Ticket). not (d == t.drv)) (live past) in let was = live_within i p bound fewer past legal.1 in omega arith
live_within i p bound fewer (Built d refs ∷ past) legal = let less = count_filter p (λ (t : Ticket). not (d == t.drv)) (live past) in let was = live_within i p bound fewer past legal.1 in omega arith
live_within i p bound fewer (Failed d why ∷ past) legal = let less = count_filter p (λ (t : Ticket). not (d == t.drv)) (live past) in let was = live_within i p bound fewer past legal.1 in omega arith
live_within i p bound fewer (NoBuilder d ∷ past) legal = live_within i p bound fewer past legal.1
live_within i p bound fewer (Started d paths ∷ past) legal = live_within i p bound fewer past legal.1
live_within i p bound fewer (Stop ∷ past) legal = live_within i p bound fewer past legal.1
live_within i p bound fewer (Drain m ∷ past) legal = live_within i p bound fewer past legal.1
live_within i p bound fewer (Enable m ∷ past) legal = live_within i p bound fewer past legal.1

-- a derivation has at most one live lease
pub lease_once : (i : Premises) (past : List Entry) → IsLegal i past → (d : ℕ) → count_by (λ t. d == t.drv) (live past) ≤ 1
lease_once i past legal d = live_within i (λ (t : Ticket). d == t.drv) 1 (λ before e m s allowed is.
    let free : is_leased d before ≡ false = subst (λ (x : ℕ). is_leased x before ≡ false) (sym (same_of d e is)) allowed.may.ready.waiting.free.unleased in
    let none = none_counted (λ (t : Ticket). d == t.drv) (live before) free in
    omega (arith, none)) past legal

-- a slot has at most one live lease
pub slot_once : (i : Premises) (past : List Entry) → IsLegal i past → (m s : ℕ) → count_by (is_on m s) (live past) ≤ 1
slot_once i past legal m s = live_within i (is_on m s) 1 (λ before e n k allowed is.
    let two = and_parts (m == n) (s == k) is in
    let P : ℕ → Type 0 = λ x. is_taken x k before ≡ false in
    let Q : ℕ → Type 0 = λ x. is_taken m x before ≡ false in
    let free = subst Q (sym (same_of s k two.1)) (subst P (sym (same_of m n two.0)) allowed.may.slot.free) in
    let none = none_counted (is_on m s) (live before) free in
    omega (arith, none)) past legal

-- the machine of a place that is decided on has a free slot
pub place_has_room : (i : Premises) (past : List Entry) (d m : ℕ) → m < machines_in i → IsPlaceFor i past d m → load m past < jobs_of i m
place_has_room i past d zero lt place = (local_free i past d place).slot
place_has_room i past d (suc p) lt place = rw (← add-one p) (best_has_room i past d p (omega arith) place.1)

-- no more leases are live on a machine than it may build at once
pub load_within : (i : Premises) (past : List Entry) → IsLegal i past → (m : ℕ) → load m past ≤ jobs_of i m
load_within i past legal m = live_within i (λ (t : Ticket). m == t.machine) (jobs_of i m) (λ before e n k allowed is.
    let P : ℕ → Type 0 = λ x. load x before < jobs_of i x in
    subst P (sym (same_of m n is)) (place_has_room i before e n allowed.ranged.1 allowed.may.place)) past legal

-- ---- a machine whose load is less than its jobs has a free slot among the first so many

slots_on : ℕ → List Ticket → List ℕ
slots_on m leases = map (λ t. t.slot) (filter (λ t. m == t.machine) leases)

on_slots : (m s : ℕ) (leases : List Ticket) → list_any (eqb s) (slots_on m leases) ≡ list_any (is_on m s) leases
unfolding slots_on
on_slots m s [] = refl
on_slots m s (t ∷ leases) = grind (arith, common_steps, on_slots m s leases)

slots_counted : (m : ℕ) (leases : List Ticket) → length (slots_on m leases) ≡ count_by (λ t. m == t.machine) leases
unfolding slots_on
slots_counted m leases = length-map (filter (λ (t : Ticket). m == t.machine) leases) (λ (t : Ticket). t.slot) ∙ length-filter (λ (t : Ticket). m == t.machine) leases

-- if all of the first n slots are taken, the load is at least n
pub full : (past : List Entry) (m n : ℕ) → ((k : ℕ) → k < n → is_taken m k past ≡ true) → n ≤ load m past
full past m n taken =
    let long = le-length_from_below (slots_on m (live past)) n (λ q lt. on_slots m q (live past) ∙ taken q lt) in
    rw (slots_counted m (live past)) at long

-- a machine has one least free slot
pub least_once : (past : List Entry) (m s k : ℕ) → IsLeastFree past m s → IsLeastFree past m k → s ≡ k
least_once past m s k one other =
    elim (cases_lt s k) [
      | inl lt ↦ let no_way : ⊥ = cc (one.free, other.least s lt) in absurd no_way
      | inr ge ↦ elim (cases_lt k s) [
        | inl lt ↦ let no_way : ⊥ = cc (other.free, one.least k lt) in absurd no_way
        | inr le ↦ omega (arith, ge, le)
      ]
    ]

-- .. which is at most its load
pub within_load : (past : List Entry) (m s : ℕ) → IsLeastFree past m s → s ≤ load m past
within_load past m s least = full past m s least.least
