-- An entry leaves the machines that it doesn't touch as they are, or takes a slot of them.
use Rattle.std.proofs.Common.{◌≡◌, ◌∙◌, ℕ, ◌+◌, ◌≤◌, Bool, true, false, ◌&&◌, ◌||◌, ◌==◌, cond, if◌then◌else◌, List, [], ◌∷◌, Some, length, count_by, refl, sym, ap, subst, arith}
use Rattle.std.specs.List.{list_any, find}
use Rattle.std.specs.Option.{option_map}
use Rattle.std.proofs.lemmas.Grind.{common_steps}
use Rattle.std.proofs.lemmas.Bool.{ne_eqb}
use Rattle.nd_leases.specs.declared.ticket.Ticket.{Ticket}
use Rattle.nd_leases.specs.Tickets.{without}
use Rattle.nd_history.specs.declared.entry.Entry.{Entry}
use Rattle.nd_history.specs.declared.entry.Entry.TheVariants.{Chosen, NoBuilder, Started, Down, Built, Failed, Stop, Drain, Enable}
use Rattle.nd_history.specs.Premises.{Premises}
use Rattle.nd_history.specs.History.{live, is_leased, load, is_up}
use Rattle.nd_history.specs.Legal.{IsLegal, IsAllowed}
use Rattle.nd_history.proofs.Slots.{lease_once, count_cons}
use Rattle.nd_pump.specs.Turned.{machine_of, touched}
use Rattle.nd_pump.specs.Waiting.{IsSteady}

-- ---- the leases of a derivation are on one machine

-- a list without a ticket of d's has none of d's on machine m, and as many on it
none_on : (d m : ℕ) (leases : List Ticket) → list_any (λ t. d == t.drv) leases ≡ false → list_any (λ t. (m == t.machine) && (d == t.drv)) leases ≡ false
none_on d m [] h = refl
none_on d m (t ∷ leases) h = grind (arith, common_steps, none_on d m leases)

all_stay : (d m : ℕ) (leases : List Ticket) → list_any (λ t. d == t.drv) leases ≡ false → count_by (λ t. m == t.machine) (without d leases) ≡ count_by (λ t. m == t.machine) leases
all_stay d m [] h = refl
all_stay d m (t ∷ leases) h = grind (arith, common_steps, all_stay d m leases)

none_left : (d : ℕ) (leases : List Ticket) → count_by (λ t. d == t.drv) leases ≡ 0 → list_any (λ t. d == t.drv) leases ≡ false
none_left d [] h = refl
none_left d (t ∷ leases) h = grind (arith, common_steps, none_left d leases)

-- nothing of machine m changes where d's only ticket is on another one
pub record IsElsewhere (d m : ℕ) (leases : List Ticket) : Type 0 where
  pub none : list_any (λ t. (m == t.machine) && (d == t.drv)) leases ≡ false
  pub load : count_by (λ t. m == t.machine) (without d leases) ≡ count_by (λ t. m == t.machine) leases

elsewhere_at : (d m : ℕ) (u t : Ticket) (leases : List Ticket) (b : Bool) → (d == u.drv) ≡ b → find (λ t. d == t.drv) (u ∷ leases) ≡ Some t → (m ≡ t.machine → ⊥) → count_by (λ t. d == t.drv) (u ∷ leases) ≤ 1
    → (find (λ t. d == t.drv) leases ≡ Some t → count_by (λ t. d == t.drv) leases ≤ 1 → IsElsewhere d m leases) → IsElsewhere d m (u ∷ leases)
elsewhere_at d m u t leases true is found other once rest =
    let one : u ≡ t = grind (arith, common_steps) in
    let apart : (m == u.machine) ≡ false = ne_eqb m u.machine (λ same. other (same ∙ ap (λ (x : Ticket). x.machine) one)) in
    let left : count_by (λ (t : Ticket). d == t.drv) leases ≡ 0 = grind (arith, common_steps) in
    let gone = none_left d leases left in
    let none = none_on d m leases gone in
    let stay = all_stay d m leases gone in
    record { none = grind (arith, common_steps); load = grind (arith, common_steps) }
elsewhere_at d m u t leases false is found other once rest =
    let more = rest (grind (arith, common_steps)) (grind (arith, common_steps)) in
    let none = more.none in
    let load = more.load in
    record { none = grind (arith, common_steps); load = grind (arith, common_steps) }

elsewhere : (d m : ℕ) (t : Ticket) (leases : List Ticket) → find (λ t. d == t.drv) leases ≡ Some t → (m ≡ t.machine → ⊥) → count_by (λ t. d == t.drv) leases ≤ 1 → IsElsewhere d m leases
elsewhere d m t [] found other once = absurd (let no_way : ⊥ = cc in no_way)
elsewhere d m t (u ∷ leases) found other once = elsewhere_at d m u t leases (d == u.drv) refl found other once (λ found once. elsewhere d m t leases found other once)

found_at : (d : ℕ) (u : Ticket) (leases : List Ticket) (b : Bool) → (b || list_any (λ t. d == t.drv) leases) ≡ true → (list_any (λ t. d == t.drv) leases ≡ true → (t : Ticket) × (find (λ t. d == t.drv) leases ≡ Some t)) → (t : Ticket) × (cond b (Some u) (find (λ t. d == t.drv) leases) ≡ Some t)
found_at d u leases true h rest = (u, refl)
found_at d u leases false h rest = rest h

found : (d : ℕ) (leases : List Ticket) → list_any (λ t. d == t.drv) leases ≡ true → (t : Ticket) × (find (λ t. d == t.drv) leases ≡ Some t)
found d [] h = absurd (let no_way : ⊥ = cc in no_way)
found d (u ∷ leases) h = found_at d u leases (d == u.drv) h (found d leases)

-- the end of a lease leaves the other machines as they are
end_elsewhere : (i : Premises) (past : List Entry) (d m : ℕ) → IsLegal i past → is_leased d past ≡ true → (machine_of d past ≡ Some m → ⊥) → IsElsewhere d m (live past)
end_elsewhere i past d m legal leased other =
    let at = found d (live past) leased in
    elsewhere d m at.0 (live past) at.1
    (λ same. other (ap (option_map (λ (t : Ticket). t.machine)) at.1 ∙ ap Some (sym same)))
    (lease_once i past legal d)

more_or_same : (b : Bool) (n : ℕ) → n ≤ cond b (n + 1) n
more_or_same true n = omega arith
more_or_same false n = omega arith

le_of_same : (a b : ℕ) → a ≡ b → b ≤ a
le_of_same a b is = omega (arith, is)

if_off : (b : Bool) (x y : Bool) → b ≡ false → (if b then x else y) ≡ y
if_off b x y is = rw is refl

some_apart : (m n : ℕ) → (Some n ≡ Some m → ⊥) → m ≡ n → ⊥
some_apart m n other same = other (ap Some (sym same))

pub steady_but : (i : Premises) (past : List Entry) (e : Entry) (m : ℕ) → IsLegal i past → IsAllowed i e past → (touched e past ≡ Some m → ⊥) → IsSteady past (e ∷ past) m
steady_but i past (Chosen d n s) m legal allowed other = record {
  up = refl;
  load = subst (λ (k : ℕ). load m past ≤ k) (sym (count_cons (λ (t : Ticket). m == t.machine) (record { machine = n; slot = s; drv = d; serial = length past }) (live past))) (more_or_same (m == n) (load m past));
}
steady_but i past (NoBuilder d) m legal allowed other = record { up = refl; load = omega arith }
steady_but i past (Started d paths) m legal allowed other = record { up = refl; load = omega arith }
steady_but i past Stop m legal allowed other = record { up = refl; load = omega arith }
steady_but i past (Drain n) m legal allowed other = record { up = if_off (m == n) false (is_up m past) (ne_eqb m n (some_apart m n other)); load = omega arith }
steady_but i past (Enable n) m legal allowed other = record { up = if_off (m == n) true (is_up m past) (ne_eqb m n (some_apart m n other)); load = omega arith }
steady_but i past (Down d) m legal allowed other =
    let away = end_elsewhere i past d m legal allowed.may.live other in
    record { up = if_off (list_any (λ (t : Ticket). (m == t.machine) && (d == t.drv)) (live past)) false (is_up m past) away.none; load = le_of_same (load m (Down d ∷ past)) (load m past) away.load }
steady_but i past (Built d refs) m legal allowed other =
    let away = end_elsewhere i past d m legal allowed.may.live other in
    record { up = refl; load = le_of_same (load m (Built d refs ∷ past)) (load m past) away.load }
steady_but i past (Failed d why) m legal allowed other =
    let away = end_elsewhere i past d m legal allowed.may other in
    record { up = refl; load = le_of_same (load m (Failed d why ∷ past)) (load m past) away.load }
