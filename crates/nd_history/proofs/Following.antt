-- The tables follow a history: after one more entry they say of the longer history what they said of the one before.
use Rattle.std.proofs.Common.{◌≡◌, ℕ, ◌+◌, ◌-◌, ◌<◌, ◌≤◌, ◌^◌, Bool, true, false, not, ◌==◌, ◌&&◌, ◌||◌, cond, if◌then◌else◌, List, [], ◌∷◌, ◌++◌, Option, None, Some, length, map, drop, take, reverse, get_or, set, refl, sym, ap, ◌∙◌, subst, arith, inl, inr, get_or-set_other, length-set}
use Rattle.std.proofs.lemmas.Grind.{common_steps, get_or_after_one}
use Rattle.std.proofs.lemmas.List.FromFn.{fill_by_all}
use Rattle.std.proofs.lemmas.Bool.{cases_eq, cases_lt, ne_eqb}
use Rattle.std.proofs.lemmas.List.{reverse-append, length-reverse, length-drop}
use Rattle.std.proofs.Math.ListN.{get_or-map}
use Rattle.std.proofs.Math.Seq.{take-length}
use Rattle.std.specs.List.{list_any, filter, find, range_with_len}
use Rattle.nd_leases.specs.declared.ticket.Ticket.{Ticket}
use Rattle.nd_leases.specs.Tickets.{is_on, ticket_of, ticket_on, AreApart}
use Rattle.nd_leases.specs.Tables.{Tables, drv_of, room_at, AreTabled, Become, HasFreeSlot, IsLeastFreeSlot}
use Rattle.nd_history.specs.declared.book.Book.TheInside.{Inside}
use Rattle.nd_history.specs.declared.entry.Entry.{Entry}
use Rattle.nd_history.specs.declared.entry.Entry.TheVariants.{Chosen, NoBuilder, Started, Down, Built, Failed, Stop, Drain, Enable}
use Rattle.nd_history.specs.Books.{Recorded, IsSeatFor, HasSeatFor, CanRecord, MayRecord}
use Rattle.nd_history.specs.Premises.{Premises}
use Rattle.nd_history.specs.Choices.{jobs_of}
use Rattle.nd_history.specs.Fitting.{FitTogether}
use Rattle.nd_history.proofs.Slots.{place_has_room, same_of}
use Rattle.nd_history.specs.BooksKept.{recorded, AreFollowed}
use Rattle.nd_history.specs.History.{live, load, is_leased, is_taken, is_started}
use Rattle.nd_history.specs.Kept.{leases_after, started_after, AreStarted, AreUp, AreUpsAfter, AreLowered, CanTable}
use Rattle.nd_history.specs.Legal.{IsLeastFree, IsAllowed}

-- ---- leases

pub leases_live : (past : List Entry) (e : Entry) → leases_after (length past) e (live past) ≡ live (e ∷ past)
leases_live past (Chosen d m s) = refl
leases_live past (Down d) = refl
leases_live past (Built d refs) = refl
leases_live past (Failed d why) = refl
leases_live past (NoBuilder d) = refl
leases_live past (Started d paths) = refl
leases_live past Stop = refl
leases_live past (Drain m) = refl
leases_live past (Enable m) = refl

fewer_at : {X : Type 0} → (b : Bool) (x : X) (xs ys : List X) → length xs ≤ length ys → length (cond b (x ∷ xs) xs) ≤ length (x ∷ ys)
fewer_at true x xs ys le = omega arith
fewer_at false x xs ys le = omega arith

fewer : {X : Type 0} → (p : X → Bool) (xs : List X) → length (filter p xs) ≤ length xs
fewer p [] = omega arith
fewer p (x ∷ xs) = fewer_at (p x) x (filter p xs) xs (fewer p xs)

-- there are no more live leases than entries
pub live_short : (past : List Entry) → length (live past) ≤ length past
live_short [] = omega arith
live_short (Chosen d m s ∷ past) = omega (arith, live_short past)
live_short (Down d ∷ past) = omega (arith, live_short past, fewer (λ (t : Ticket). not (d == t.drv)) (live past))
live_short (Built d refs ∷ past) = omega (arith, live_short past, fewer (λ (t : Ticket). not (d == t.drv)) (live past))
live_short (Failed d why ∷ past) = omega (arith, live_short past, fewer (λ (t : Ticket). not (d == t.drv)) (live past))
live_short (NoBuilder d ∷ past) = omega (arith, live_short past)
live_short (Started d paths ∷ past) = omega (arith, live_short past)
live_short (Stop ∷ past) = omega (arith, live_short past)
live_short (Drain m ∷ past) = omega (arith, live_short past)
live_short (Enable m ∷ past) = omega (arith, live_short past)

-- ---- a test that nothing passes finds nothing, and one that something passes finds something

none_at : {X : Type 0} → (b : Bool) (x : X) (any : Bool) (found : Option X) → (b || any) ≡ false → (any ≡ false → found ≡ None) → cond b (Some x) found ≡ None
none_at true x any found none rest = cc
none_at false x any found none rest = rest none

pub none_found : {X : Type 0} → (p : X → Bool) (xs : List X) → list_any p xs ≡ false → find p xs ≡ None
none_found p [] none = refl
none_found p (x ∷ xs) none = none_at (p x) x (list_any p xs) (find p xs) none (none_found p xs)

passes_at : {X : Type 0} → (b : Bool) (x : X) (any : Bool) (found : Option X) → cond b (Some x) found ≡ None → (found ≡ None → any ≡ false) → (b || any) ≡ false
passes_at true x any found none rest = cc
passes_at false x any found none rest = rest none

pub none_passes : {X : Type 0} → (p : X → Bool) (xs : List X) → find p xs ≡ None → list_any p xs ≡ false
none_passes p [] none = refl
none_passes p (x ∷ xs) none = passes_at (p x) x (list_any p xs) (find p xs) none (none_passes p xs)

one_at : (b : Bool) → (b ≡ false → ⊥) → b ≡ true
one_at true some = refl
one_at false some = absurd (some refl)

pub one_passes : {X : Type 0} → (p : X → Bool) (xs : List X) → (find p xs ≡ None → ⊥) → list_any p xs ≡ true
one_passes p xs some = one_at (list_any p xs) (λ none. some (none_found p xs none))

-- a flag that was put reads back
put_flag : (flags : List Bool) (e d : ℕ) (flag : Bool) → d < length flags → get_or (set flags e flag) d false ≡ (if d == e then flag else get_or flags d false)
put_flag flags e d flag lt =
    elim (cases_eq d e) [
      | inl same ↦ grind (arith, common_steps, same, lt)
      | inr other ↦ rw (ne_eqb d e other, get_or-set_other flags e d flag false other)
    ]

pub nothing : (o : Option Ticket) → ((t : Ticket) → o ≡ Some t → ⊥) → o ≡ None
nothing None none = refl
nothing (Some t) none = absurd (none t refl)

-- the flags of machines without that of a derivation's lease
lower_off : (a b any : Bool) (u : Ticket) (found : Option Ticket) → cond b (Some u) found ≡ None → (found ≡ None → any ≡ false) → ((a && b) || any) ≡ false
lower_off a true any u found none rest = cc
lower_off true false any u found none rest = rest none
lower_off false false any u found none rest = rest none

-- no lease of d is on a machine where d has none
pub none_on : (d m : ℕ) (tickets : List Ticket) → ticket_of d tickets ≡ None → list_any (λ t. (m == t.machine) && (d == t.drv)) tickets ≡ false
none_on d m [] none = refl
none_on d m (u ∷ tickets) none = lower_off (m == u.machine) (d == u.drv) (list_any (λ (t : Ticket). (m == t.machine) && (d == t.drv)) tickets) u (ticket_of d tickets) none (none_on d m tickets)

alone : (a : Bool) → ((a && true) || false) ≡ a
alone true = refl
alone false = refl

beside : (a any : Bool) → ((a && false) || any) ≡ any
beside true any = refl
beside false any = refl

-- d's lease is on the machine of its ticket
on_at : (d m : ℕ) (u : Ticket) (tickets : List Ticket) (t : Ticket) (b : Bool) → (d == u.drv) ≡ b → ticket_of u.drv tickets ≡ None → cond b (Some u) (ticket_of d tickets) ≡ Some t → (ticket_of d tickets ≡ Some t → list_any (λ v. (m == v.machine) && (d == v.drv)) tickets ≡ (m == t.machine)) → (((m == u.machine) && b) || list_any (λ v. (m == v.machine) && (d == v.drv)) tickets) ≡ (m == t.machine)
on_at d m u tickets t true is apart found rest =
    let it : u ≡ t = cc in
    let gone : list_any (λ (v : Ticket). (m == v.machine) && (d == v.drv)) tickets ≡ false = none_on d m tickets (subst (λ (x : ℕ). ticket_of x tickets ≡ None) (sym (same_of d u.drv is)) apart) in
    ap (λ (any : Bool). ((m == u.machine) && true) || any) gone ∙ alone (m == u.machine) ∙ ap (λ (v : Ticket). m == v.machine) it
on_at d m u tickets t false is apart found rest = beside (m == u.machine) (list_any (λ (v : Ticket). (m == v.machine) && (d == v.drv)) tickets) ∙ rest found

pub one_on : (d m : ℕ) (tickets : List Ticket) (t : Ticket) → AreApart tickets → ticket_of d tickets ≡ Some t → list_any (λ v. (m == v.machine) && (d == v.drv)) tickets ≡ (m == t.machine)
one_on d m [] t apart found = let no_way : ⊥ = cc in absurd no_way
one_on d m (u ∷ tickets) t apart found = on_at d m u tickets t (d == u.drv) refl apart.0 found (one_on d m tickets t apart.2)

pub lowered_one : (d : ℕ) (tickets : List Ticket) (t : Ticket) (old new : List Bool) → AreApart tickets → ticket_of d tickets ≡ Some t → new ≡ set old t.machine false → AreLowered d tickets old new
lowered_one d tickets t old new apart found is = record {
  sized = ap length is ∙ length-set old t.machine false;
  said = λ m lt. ap (λ (l : List Bool). get_or l m false) is ∙ put_flag old t.machine m false lt ∙ ap (λ (b : Bool). if b then false else get_or old m false) (sym (one_on d m tickets t apart found));
}

pub lowered_none : (d : ℕ) (tickets : List Ticket) (old : List Bool) → ticket_of d tickets ≡ None → AreLowered d tickets old old
lowered_none d tickets old none = record {
  sized = refl;
  said = λ m lt. ap (λ (b : Bool). if b then false else get_or old m false) (sym (none_on d m tickets none));
}

either : (a b : Bool) → (if a then true else b) ≡ (a || b)
either true b = refl
either false b = refl

pub started_follow : (past : List Entry) (e : Entry) (flags : List Bool) → AreStarted past flags → AreStarted (e ∷ past) (started_after e flags)
started_follow past (Chosen e m s) flags are = record {
  said = λ d lt. let here : d < length flags = grind (arith, common_steps, lt) in put_flag flags e d false here ∙ ap (λ (b : Bool). if d == e then false else b) (are.said d here);
}
started_follow past (Started e paths) flags are = record {
  said = λ d lt. let here : d < length flags = grind (arith, common_steps, lt) in put_flag flags e d true here ∙ ap (λ (b : Bool). if d == e then true else b) (are.said d here) ∙ either (d == e) (is_started d past);
}
started_follow past (Down d) flags are = record { said = are.said }
started_follow past (Built d refs) flags are = record { said = are.said }
started_follow past (Failed d why) flags are = record { said = are.said }
started_follow past (NoBuilder d) flags are = record { said = are.said }
started_follow past Stop flags are = record { said = are.said }
started_follow past (Drain m) flags are = record { said = are.said }
started_follow past (Enable m) flags are = record { said = are.said }

pub ups_follow : (past : List Entry) (e : Entry) (old new : List Bool) → AreUp past old → AreUpsAfter e (live past) old new → AreUp (e ∷ past) new
ups_follow past (Down d) old new are after = record {
  said = λ m lt.
      let here : m < length old = omega (arith, after.sized, lt) in
      after.said m here ∙ ap (λ (b : Bool). if list_any (λ (t : Ticket). (m == t.machine) && (d == t.drv)) (live past) then false else b) (are.said m here);
}
ups_follow past (Drain n) old new are after = rw after (record {
  said = λ m lt. let here : m < length old = grind (arith, common_steps, lt) in put_flag old n m false here ∙ ap (λ (b : Bool). if m == n then false else b) (are.said m here);
})
ups_follow past (Enable n) old new are after = rw after (record {
  said = λ m lt. let here : m < length old = grind (arith, common_steps, lt) in put_flag old n m true here ∙ ap (λ (b : Bool). if m == n then true else b) (are.said m here);
})
ups_follow past (Chosen d m s) old new are after = rw after (record { said = are.said })
ups_follow past (NoBuilder d) old new are after = rw after (record { said = are.said })
ups_follow past (Started d paths) old new are after = rw after (record { said = are.said })
ups_follow past (Built d refs) old new are after = rw after (record { said = are.said })
ups_follow past (Failed d why) old new are after = rw after (record { said = are.said })
ups_follow past Stop old new are after = rw after (record { said = are.said })

-- a history with one more entry, turned round
pub newest_first : (items longer : List Entry) (e : Entry) → longer ≡ items ++ e ∷ [] → reverse longer ≡ e ∷ reverse items
newest_first items longer e is = ap reverse is ∙ reverse-append items (e ∷ [])

-- all tables after one more entry
pub follow_all : (items longer : List Entry) (e : Entry) (old new : Tables) (ups new_ups : List Bool) → longer ≡ items ++ e ∷ [] → AreTabled old (live (reverse items)) → AreStarted (reverse items) old.started → AreUp (reverse items) ups → Become old new (leases_after (length items) e) → new.started ≡ started_after e old.started → ((tickets : List Ticket) → AreTabled old tickets → AreUpsAfter e tickets ups new_ups) → AreTabled new (live (reverse longer)) × AreStarted (reverse longer) new.started × AreUp (reverse longer) new_ups
follow_all items longer e old new ups new_ups is tabled begun up become started_new ups_new =
    rw (newest_first items longer e is) (
      subst (λ (ts : List Ticket). AreTabled new ts) (ap (λ (n : ℕ). leases_after n e (live (reverse items))) (sym (length-reverse items)) ∙ leases_live (reverse items) e) (become (live (reverse items)) tabled),
      rw started_new (started_follow (reverse items) e old.started begun),
      ups_follow (reverse items) e ups new_ups up (ups_new (live (reverse items)) tabled),
    )

-- ---- lengths

pub started_sized : (e : Entry) (flags : List Bool) → length (started_after e flags) ≡ length flags
started_sized (Chosen e m s) flags = length-set flags e false
started_sized (Started e paths) flags = length-set flags e true
started_sized (NoBuilder d) flags = refl
started_sized (Down d) flags = refl
started_sized (Built d refs) flags = refl
started_sized (Failed d why) flags = refl
started_sized Stop flags = refl
started_sized (Drain m) flags = refl
started_sized (Enable m) flags = refl

pub ups_sized : (e : Entry) (tickets : List Ticket) (old new : List Bool) → AreUpsAfter e tickets old new → length new ≡ length old
ups_sized (Down d) tickets old new after = after.sized
ups_sized (Drain m) tickets old new after = ap length after ∙ length-set old m false
ups_sized (Enable m) tickets old new after = ap length after ∙ length-set old m true
ups_sized (Chosen e m s) tickets old new after = ap length after
ups_sized (Started e paths) tickets old new after = ap length after
ups_sized (NoBuilder d) tickets old new after = ap length after
ups_sized (Built d refs) tickets old new after = ap length after
ups_sized (Failed d why) tickets old new after = ap length after
ups_sized Stop tickets old new after = ap length after

-- ---- what can be recorded can be tabled

pub entries_fit : (b : Inside) → length b.entries.items < 2 ^ 63
entries_fit b = let len = b.entries.ok.0 in let cap = b.entries.ok.1 in let top = b.entries.small in omega arith

pub can_table : (b : Inside) (e : Entry) → AreFollowed b → CanRecord (recorded b) e → CanTable b.leases e
can_table b (Chosen d m s) followed can =
    let past = reverse b.entries.items in
    let short : length (live past) ≤ length past = live_short past in
    let same : length past ≡ length b.entries.items = length-reverse b.entries.items in
    let small : length b.entries.items < 2 ^ 63 = entries_fit b in
    record {
      drv = can.seat.drv;
      unleased = followed.leases.holders d ∙ none_found (λ (t : Ticket). d == t.drv) (live past) can.seat.unleased;
      room = subst (λ (n : ℕ). s < n) (get_or-map length b.leases.rows m []) can.room;
      free = followed.leases.slots m s ∙ ap drv_of (none_found (is_on m s) (live past) can.seat.slot.free);
      light = rw (followed.leases.loads m) can.seat.light;
      few = let count : b.leases.len ≡ length (live past) = followed.leases.count in omega (arith, count, short, same, small);
    }
can_table b (Down d) followed can = tt
can_table b (Built d refs) followed can = tt
can_table b (Failed d why) followed can = tt
can_table b (NoBuilder d) followed can = tt
can_table b (Started d paths) followed can = tt
can_table b Stop followed can = tt
can_table b (Drain m) followed can = tt
can_table b (Enable m) followed can = tt

-- ---- the least free slot

pub least_slot : (past : List Entry) (m s : ℕ) → IsLeastFreeSlot m s (live past) → IsLeastFree past m s
least_slot past m s least = record {
  free = none_passes (is_on m s) (live past) least.free;
  least = λ k lt. one_passes (is_on m k) (live past) (least.least k lt);
}

empty_ticket : (o : Option Ticket) → drv_of o ≡ None → o ≡ None
empty_ticket None is = refl
empty_ticket (Some t) is = cc

-- what can be recorded so can be with the same entries, derivations and machines
pub same_may : (old new : Recorded) (e : Entry) → new.entries ≡ old.entries → new.drvs ≡ old.drvs → new.machines ≡ old.machines → MayRecord old e → MayRecord new e
same_may old new (Chosen d m s) entries drvs machines seat =
    let P : List Entry → Type 0 = λ es. (is_leased d (reverse es) ≡ false) × IsLeastFree (reverse es) m s × (load m (reverse es) + 1 < 2 ^ 32) in
    let now : P new.entries = subst P (sym entries) (seat.unleased, seat.slot, seat.light) in
    record { drv = rw drvs seat.drv; machine = rw machines seat.machine; unleased = now.0; slot = now.1; light = now.2 }
same_may old new (Down d) entries drvs machines may = tt
same_may old new (Built d refs) entries drvs machines may = tt
same_may old new (Failed d why) entries drvs machines may = tt
same_may old new (NoBuilder d) entries drvs machines may = tt
same_may old new (Started d paths) entries drvs machines may = tt
same_may old new Stop entries drvs machines may = tt
same_may old new (Drain m) entries drvs machines may = tt
same_may old new (Enable m) entries drvs machines may = tt

-- where the tables got a free slot of machine m, the seat there is one that they have
pub has_seat : (old new : Recorded) (tables : Tables) (d m s : ℕ) → new.entries ≡ old.entries → new.drvs ≡ old.drvs → new.machines ≡ old.machines → new.rooms ≡ map length tables.rows → AreTabled tables (live (reverse old.entries)) → HasFreeSlot tables m → IsSeatFor old d m s → HasSeatFor new d m s
has_seat old new tables d m s entries drvs machines rooms tabled gap seat =
    let past = reverse old.entries in
    let none : is_taken m gap.slot past ≡ false = none_passes (is_on m gap.slot) (live past) (empty_ticket (ticket_on m gap.slot (live past)) (sym (tabled.slots m gap.slot) ∙ gap.free)) in
    let le : s ≤ gap.slot = elim (cases_lt gap.slot s) [ inl lt ↦ let no_way : ⊥ = cc (none, seat.slot.least gap.slot lt) in absurd no_way | inr ge ↦ ge ] in
    let room : room_at tables m ≡ get_or new.rooms m 0 = sym (ap (λ (l : List ℕ). get_or l m 0) rooms ∙ get_or-map length tables.rows m []) in
    record {
      seat = same_may old new (Chosen d m s) entries drvs machines seat;
      room = let within = gap.within in omega (arith, within, le, room);
    }

-- an allowed entry can be recorded where the tables have the slots for it
pub may_record : (i : Premises) (book : Recorded) (e : Entry) → FitTogether i book → IsAllowed i e (reverse book.entries) → MayRecord book e
may_record i book (Chosen d m s) fit allowed = record {
  drv = let lt = allowed.ranged.0 in rw fit.drvs lt;
  machine = let lt : m < length i.machines + 1 = allowed.ranged.1 in rw fit.park lt;
  unleased = allowed.may.ready.waiting.free.unleased;
  slot = allowed.may.slot;
  light =
      let lt : load m (reverse book.entries) < jobs_of i m = place_has_room i (reverse book.entries) d m allowed.ranged.1 allowed.may.place in
      let small : jobs_of i m ≤ 65535 = fit.small.jobs m in
      omega (arith, lt, small);
}
may_record i book (Down d) fit allowed = tt
may_record i book (Built d refs) fit allowed = tt
may_record i book (Failed d why) fit allowed = tt
may_record i book (NoBuilder d) fit allowed = tt
may_record i book (Started d paths) fit allowed = tt
may_record i book Stop fit allowed = tt
may_record i book (Drain m) fit allowed = tt
may_record i book (Enable m) fit allowed = tt

-- ---- loads

behind_first : (l : List ℕ) (n : ℕ) → length l ≡ n + 1 → take (length l - 1) (drop 1 l) ≡ drop 1 l
behind_first [] n sized = absurd (omega (arith, sized))
behind_first (x ∷ xs) n sized = let one : length (x ∷ xs) - 1 ≡ length xs = omega arith in ap (λ (k : ℕ). take k xs) one ∙ take-length xs

-- a list that has f's value at each place has, from its second place on, f's values from 1 on
pub after_first : (f : ℕ → ℕ) (l : List ℕ) (n : ℕ) → length l ≡ n + 1 → ((m : ℕ) → get_or l m 0 ≡ f m) → take (length l - 1) (drop 1 l) ≡ map (λ p. f (p + 1)) (range_with_len 0 n)
after_first f l n sized each = behind_first l n sized ∙ fill_by_all (λ (p : ℕ). f (p + 1)) (drop 1 l) n 0 (length-drop 1 l ∙ omega (arith, sized)) (λ k lt. get_or_after_one l k 0 ∙ each (1 + k) ∙ ap f (omega arith))

-- ---- the slot of a choice is made

pub slot_made : (b : Inside) (now : Recorded) (tables : Tables) (e : Entry) (d m s : ℕ) → recorded b ≡ now → AreFollowed b → e ≡ Chosen d m s → MayRecord now e → Become b.leases tables (λ tickets. tickets) → tables.holders ≡ b.leases.holders → HasFreeSlot tables m → CanRecord (recorded (record b { leases = tables })) e
slot_made b now tables e d m s view followed is may become holders gap =
    let here : IsSeatFor now d m s = subst (λ (x : Entry). MayRecord now x) is may in
    let seat : IsSeatFor (recorded b) d m s = subst (λ (r : Recorded). IsSeatFor r d m s) (sym view) here in
    let P : Entry → Type 0 = λ x. CanRecord (recorded (record b { leases = tables })) x in
    subst P (sym is) (has_seat (recorded b) (recorded (record b { leases = tables })) tables d m s refl (ap length holders) refl refl (become (live (reverse b.entries.items)) followed.leases) gap seat)

behind_first_flag : (l : List Bool) (n : ℕ) → length l ≡ n + 1 → take (length l - 1) (drop 1 l) ≡ drop 1 l
behind_first_flag [] n sized = absurd (omega (arith, sized))
behind_first_flag (x ∷ xs) n sized = let one : length (x ∷ xs) - 1 ≡ length xs = omega arith in ap (λ (k : ℕ). take k xs) one ∙ take-length xs

-- .. and flags likewise
pub flags_after_first : (f : ℕ → Bool) (l : List Bool) (whole n : ℕ) → length l ≡ whole → whole ≡ n + 1 → ((m : ℕ) → m < whole → get_or l m false ≡ f m) → take (length l - 1) (drop 1 l) ≡ map (λ p. f (p + 1)) (range_with_len 0 n)
flags_after_first f l whole n sized is each =
    behind_first_flag l n (sized ∙ is)
    ∙ fill_by_all (λ (p : ℕ). f (p + 1)) (drop 1 l) n false (length-drop 1 l ∙ omega (arith, sized, is))
    (λ k lt. get_or_after_one l k false ∙ each (1 + k) (omega (arith, lt, is)) ∙ ap f (omega arith))

-- a list without its first
pub length-take_drop : {X : Type 0} → (l : List X) → length (take (length l - 1) (drop 1 l)) ≡ length l - 1
length-take_drop [] = refl
length-take_drop (x ∷ xs) = let one : length (x ∷ xs) - 1 ≡ length xs = omega arith in ap (λ (k : ℕ). length (take k xs)) one ∙ ap length (take-length xs) ∙ sym one
