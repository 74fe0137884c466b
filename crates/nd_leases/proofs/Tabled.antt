-- Tables that hold tickets go on holding them, after one more and after one less.
use Rattle.std.proofs.Common.{◌≡◌, ◌≢◌, ℕ, zero, suc, ◌+◌, ◌-◌, ◌<◌, ◌≤◌, Bool, true, false, not, ◌==◌, ◌&&◌, cond, List, [], ◌∷◌, length, replicate, get_or, set, Option, None, Some, count_by, refl, sym, ap, ◌∙◌, subst, arith, inl, inr, get_or-set_other, get_or-set_same, length-set}
use Rattle.std.proofs.lemmas.Grind.{common_steps}
use Rattle.std.proofs.lemmas.Bool.{cases_eq, cases_lt, ne_eqb}
use Rattle.std.proofs.lemmas.List.{get_or_past}
use Rattle.std.specs.List.{find, filter}
use Rattle.nd_leases.specs.declared.ticket.Ticket.{Ticket}
use Rattle.nd_leases.specs.Tickets.{without, same_place, is_on, ticket_of, ticket_on, tickets_on, AreApart}
use Rattle.nd_leases.specs.declared.leases.Leases.TheInside.{Inside}
use Rattle.nd_leases.specs.Whole.{tables_of, AreWhole}
use Rattle.nd_leases.specs.Tables.{Tables, holder_at, load_at, row_at, slot_at, room_at, drv_of, AreTabled}

-- ---- numbers and lists

-- numbers that test equal are equal
same_of : (a b : ℕ) → (a == b) ≡ true → a ≡ b
same_of a b h = elim (cases_eq a b) [ inl same ↦ same | inr other ↦ let no_way : ⊥ = cc (ne_eqb a b other) in absurd no_way ]

-- what is read after an item was put
pub put_at : {X : Type 0} → (xs : List X) (i j : ℕ) (y d : X) → i < length xs → get_or (set xs i y) j d ≡ cond (j == i) y (get_or xs j d)
put_at xs i j y d lt =
    elim (cases_eq j i) [
      | inl same ↦ grind (arith, common_steps, same, lt)
      | inr other ↦ rw (ne_eqb j i other) (get_or-set_other xs i j y d other)
    ]

-- what isn't the default lies within
pub within : {X : Type 0} → (xs : List (Option X)) (i : ℕ) (x : X) → get_or xs i None ≡ Some x → i < length xs
within xs i x is = elim (cases_lt i (length xs)) [ inl lt ↦ lt | inr past ↦ let no_way : ⊥ = cc (get_or_past xs i None past) in absurd no_way ]

row_within : (rows : List (List (Option ℕ))) (m s : ℕ) → s < length (get_or rows m []) → m < length rows
row_within rows m s lt = elim (cases_lt m (length rows)) [ inl here ↦ here | inr past ↦ let none : length (get_or rows m []) ≡ 0 = ap length (get_or_past rows m [] past) in absurd (omega (arith, none, lt)) ]

-- one more item counts where it passes
count_cons : {X : Type 0} → (p : X → Bool) (x : X) (xs : List X) → count_by p (x ∷ xs) ≡ cond (p x) (count_by p xs + 1) (count_by p xs)
count_cons p x xs = grind (arith, common_steps)

pub none_of : (o : Option Ticket) → drv_of o ≡ None → o ≡ None
none_of None is = refl
none_of (Some t) is = cc

-- ---- one ticket more

-- the tables got a ticket
pub record IsBegun (old : Tables) (t : Ticket) (new : Tables) : Type 0 where
  pub holders : new.holders ≡ set old.holders t.drv (Some t)
  pub loads : new.loads ≡ set old.loads t.machine (load_at old t.machine + 1)
  pub rows : new.rows ≡ set old.rows t.machine (set (row_at old t.machine) t.slot (Some t.drv))
  pub len : new.len ≡ old.len + 1

-- .. for which there was room
pub record IsRoomFor (old : Tables) (t : Ticket) : Type 0 where
  pub drv : t.drv < length old.holders
  pub machine : t.machine < length old.loads
  pub rows : length old.rows ≡ length old.loads
  pub slot : t.slot < room_at old t.machine
  pub unleased : holder_at old t.drv ≡ None
  pub free : slot_at old t.machine t.slot ≡ None

pub room_given : (old : Tables) (t : Ticket) → length old.rows ≡ length old.loads → t.drv < length old.holders → holder_at old t.drv ≡ None → t.slot < room_at old t.machine → slot_at old t.machine t.slot ≡ None → IsRoomFor old t
room_given old t rows drv unleased slot free = record {
  drv = drv;
  machine = let lt : t.machine < length old.rows = row_within old.rows t.machine t.slot slot in omega (arith, lt, rows);
  rows = rows;
  slot = slot;
  unleased = unleased;
  free = free;
}

raised : (b : Bool) (m n x y x' y' : ℕ) → (b ≡ true → m ≡ n) → (m ≡ n → x ≡ y) → x ≡ x' → y ≡ y' → cond b (y + 1) x ≡ cond b (x' + 1) x'
raised true m n x y x' y' same eq p q = let is : x ≡ y = eq (same refl) in omega arith
raised false m n x y x' y' same eq p q = p

row_put : (b c : Bool) (row row' : List (Option ℕ)) (s s' : ℕ) (o : Option ℕ) → (s == s') ≡ c → (b ≡ true → row' ≡ row) → s' < length row → get_or (cond b (set row s' o) row') s None ≡ cond (b && c) o (get_or row' s None)
row_put true c row row' s s' o is same lt = rw (put_at row s' s o None lt, is, same refl) refl
row_put false c row row' s s' o is same lt = refl

-- what is read of the slots after one was put
slot_put : (old : Tables) (rows : List (List (Option ℕ))) (n k : ℕ) (o : Option ℕ) → n < length old.rows → k < room_at old n → rows ≡ set old.rows n (set (row_at old n) k o) → (m s : ℕ) → get_or (get_or rows m []) s None ≡ cond (same_place (m, s) (n, k)) o (slot_at old m s)
slot_put old rows n k o lt within is m s =
    ap (λ (rs : List (List (Option ℕ))). get_or (get_or rs m []) s None) is
    ∙ ap (λ (r : List (Option ℕ)). get_or r s None) (put_at old.rows n m (set (row_at old n) k o) [] lt)
    ∙ row_put (m == n) (s == k) (row_at old n) (row_at old m) s k o refl (λ e. ap (row_at old) (same_of m n e)) within

on_cons : (b : Bool) (t : Ticket) (o : Option Ticket) → cond b (Some t.drv) (drv_of o) ≡ drv_of (cond b (Some t) o)
on_cons true t o = refl
on_cons false t o = refl

pub begun : (old : Tables) (t : Ticket) (new : Tables) (tickets : List Ticket) → IsRoomFor old t → IsBegun old t new → AreTabled old tickets → AreTabled new (t ∷ tickets)
begun old t new tickets room is tabled = record {
  apart = (sym (tabled.holders t.drv) ∙ room.unleased, none_of (ticket_on t.machine t.slot tickets) (sym (tabled.slots t.machine t.slot) ∙ room.free), tabled.apart);
  holders = λ d.
      ap (λ hs. get_or hs d None) is.holders
      ∙ put_at old.holders t.drv d (Some t) None room.drv
      ∙ ap (λ (o : Option Ticket). cond (d == t.drv) (Some t) o) (tabled.holders d);
  loads = λ m.
      ap (λ ls. get_or ls m 0) is.loads
      ∙ put_at old.loads t.machine m (load_at old t.machine + 1) 0 room.machine
      ∙ raised (m == t.machine) m t.machine (load_at old m) (load_at old t.machine) (tickets_on m tickets) (tickets_on t.machine tickets) (same_of m t.machine) (λ e. ap (load_at old) e) (tabled.loads m) (tabled.loads t.machine)
      ∙ sym (count_cons (λ (u : Ticket). m == u.machine) t tickets);
  slots = λ m s.
      let lt : t.machine < length old.rows = omega (arith, room.machine, room.rows) in
      slot_put old new.rows t.machine t.slot (Some t.drv) lt room.slot is.rows m s
      ∙ ap (λ (o : Option ℕ). cond (is_on m s t) (Some t.drv) o) (tabled.slots m s)
      ∙ on_cons (is_on m s t) t (ticket_on m s tickets);
  count = is.len ∙ omega (arith, tabled.count);
}

-- ---- what is found in a list

-- what is found passes every test that nothing is found for
found_at : (p q : Ticket → Bool) (u : Ticket) (tickets : List Ticket) (t : Ticket) (a b : Bool) → p u ≡ a → q u ≡ b → cond a (Some u) (find p tickets) ≡ Some t → q t ≡ true → cond b (Some u) (find q tickets) ≡ None → (find p tickets ≡ Some t → find q tickets ≡ None → ⊥) → ⊥
found_at p q u tickets t a true is also found passes none rest = cc
found_at p q u tickets t true false is also found passes none rest = let no_way : false ≡ true = (sym also ∙ ap q (let e : u ≡ t = cc in e) ∙ passes) in cc
found_at p q u tickets t false false is also found passes none rest = rest found none

found_passes : (p q : Ticket → Bool) (tickets : List Ticket) (t : Ticket) → find p tickets ≡ Some t → q t ≡ true → find q tickets ≡ None → ⊥
found_passes p q [] t found passes none = cc
found_passes p q (u ∷ tickets) t found passes none = found_at p q u tickets t (p u) (q u) refl refl found passes none (λ f n. found_passes p q tickets t f passes n)

same_self : (n : ℕ) → (n == n) ≡ true
same_self n = grind (arith, common_steps)

-- where none is found for one number, none is for an equal one
none_same : (e d : ℕ) (tickets : List Ticket) (b : Bool) → (e == d) ≡ b → ticket_of d tickets ≡ None → b ≡ true → ticket_of e tickets ≡ None
none_same e d tickets b is none up = subst (λ (x : ℕ). ticket_of x tickets ≡ None) (sym (same_of e d (is ∙ up))) none

-- the derivation on a slot has the ticket that is on it
again_at : (m s d : ℕ) (u : Ticket) (tickets : List Ticket) (a b : Bool) → (d == u.drv) ≡ b → ticket_of u.drv tickets ≡ None → drv_of (cond a (Some u) (ticket_on m s tickets)) ≡ Some d → (drv_of (ticket_on m s tickets) ≡ Some d → ticket_of d tickets ≡ ticket_on m s tickets) → cond b (Some u) (ticket_of d tickets) ≡ cond a (Some u) (ticket_on m s tickets)
again_at m s d u tickets true true is none found rest = refl
again_at m s d u tickets true false is none found rest = let same : u.drv ≡ d = cc in let no_way : ⊥ = cc (same_self d, subst (λ (x : ℕ). (d == x) ≡ false) same is) in absurd no_way
again_at m s d u tickets false false is none found rest = rest found
again_at m s d u tickets false true is none found rest =
    let here : ticket_of d tickets ≡ None = none_same d u.drv tickets true is none refl in
    let there : ticket_on m s tickets ≡ None = sym (rest found) ∙ here in
    let no_way : None ≡ Some d = sym (ap drv_of there) ∙ found in
    cc

pub found_again : (m s d : ℕ) (tickets : List Ticket) → AreApart tickets → drv_of (ticket_on m s tickets) ≡ Some d → ticket_of d tickets ≡ ticket_on m s tickets
found_again m s d [] apart found = refl
found_again m s d (u ∷ tickets) apart found = again_at m s d u tickets (is_on m s u) (d == u.drv) refl apart.0 found (found_again m s d tickets apart.2)

-- ---- one ticket less

-- the rest is the list without the ticket t, which is that of derivation d
pub record IsOneLess (d : ℕ) (tickets : List Ticket) (t : Ticket) (rest : List Ticket) : Type 0 where
  pub holders : (e : ℕ) → ticket_of e rest ≡ cond (e == d) None (ticket_of e tickets)
  pub loads : (m : ℕ) → tickets_on m tickets ≡ cond (m == t.machine) (tickets_on m rest + 1) (tickets_on m rest)
  pub slots : (m s : ℕ) → ticket_on m s rest ≡ cond (is_on m s t) None (ticket_on m s tickets)
  pub count : length tickets ≡ length rest + 1
  pub apart : AreApart rest

dropped : (b : Bool) (t : Ticket) (o : Option Ticket) → (b ≡ true → o ≡ None) → o ≡ cond b None (cond b (Some t) o)
dropped true t o none = none refl
dropped false t o none = refl

both : (a b : Bool) → (a && b) ≡ true → (a ≡ true) × (b ≡ true)
both true b h = (refl, h)
both false b h = cc

head_less : (t : Ticket) (tickets : List Ticket) → AreApart (t ∷ tickets) → IsOneLess t.drv (t ∷ tickets) t tickets
head_less t tickets apart = record {
  holders = λ e. dropped (e == t.drv) t (ticket_of e tickets) (none_same e t.drv tickets (e == t.drv) refl apart.0);
  loads = λ m. count_cons (λ (u : Ticket). m == u.machine) t tickets;
  slots = λ m s.
      dropped (is_on m s t) t (ticket_on m s tickets)
      (λ is.
      let two = both (m == t.machine) (s == t.slot) is in
      let P : ℕ → Type 0 = λ x. ticket_on x t.slot tickets ≡ None in
      let Q : ℕ → Type 0 = λ x. ticket_on m x tickets ≡ None in
      subst Q (sym (same_of s t.slot two.1)) (subst P (sym (same_of m t.machine two.0)) apart.1));
  count = omega arith;
  apart = apart.2;
}

-- a ticket beside one that is taken out stays
stays : (a b : Bool) (u : Ticket) (o rest : Option Ticket) → (a ≡ true → b ≡ true → ⊥) → rest ≡ cond a None o → cond b (Some u) rest ≡ cond a None (cond b (Some u) o)
stays true true u o rest apart is = absurd (apart refl refl)
stays true false u o rest apart is = is
stays false true u o rest apart is = refl
stays false false u o rest apart is = is

counted : (a c : Bool) (x y : ℕ) → x ≡ cond c (y + 1) y → cond a (x + 1) x ≡ cond c (cond a (y + 1) y + 1) (cond a (y + 1) y)
counted true true x y is = omega arith
counted true false x y is = omega arith
counted false true x y is = is
counted false false x y is = is

none_left : (b : Bool) (o rest : Option Ticket) → o ≡ None → rest ≡ cond b None o → rest ≡ None
none_left true o rest none is = is
none_left false o rest none is = is ∙ none

tail_less : (d : ℕ) (u : Ticket) (tickets : List Ticket) (t : Ticket) (rest : List Ticket) → (d == u.drv) ≡ false → AreApart (u ∷ tickets) → ticket_of d tickets ≡ Some t → IsOneLess d tickets t rest → IsOneLess d (u ∷ tickets) t (u ∷ rest)
tail_less d u tickets t rest other apart found less = record {
  holders = λ e.
      stays (e == d) (e == u.drv) u (ticket_of e tickets) (ticket_of e rest)
      (λ a b. let no_way : ⊥ = cc (other, subst (λ (x : ℕ). (x == u.drv) ≡ true) (same_of e d a) b) in absurd no_way)
      (less.holders e);
  loads = λ m.
      count_cons (λ (v : Ticket). m == v.machine) u tickets
      ∙ counted (m == u.machine) (m == t.machine) (tickets_on m tickets) (tickets_on m rest) (less.loads m)
      ∙ ap (λ (n : ℕ). cond (m == t.machine) (n + 1) n) (sym (count_cons (λ (v : Ticket). m == v.machine) u rest));
  slots = λ m s.
      stays (is_on m s t) (is_on m s u) u (ticket_on m s tickets) (ticket_on m s rest)
      (λ a b.
      let two = both (m == u.machine) (s == u.slot) b in
      let P : ℕ → Type 0 = λ x. ticket_on x u.slot tickets ≡ None in
      let Q : ℕ → Type 0 = λ x. ticket_on m x tickets ≡ None in
      found_passes (λ (v : Ticket). d == v.drv) (is_on m s) tickets t found a (subst Q (sym (same_of s u.slot two.1)) (subst P (sym (same_of m u.machine two.0)) apart.1)))
      (less.slots m s);
  count = omega (arith, less.count);
  apart = (none_left (u.drv == d) (ticket_of u.drv tickets) (ticket_of u.drv rest) apart.0 (less.holders u.drv), none_left (is_on u.machine u.slot t) (ticket_on u.machine u.slot tickets) (ticket_on u.machine u.slot rest) apart.1 (less.slots u.machine u.slot), less.apart);
}

-- a list in which no ticket is of d stays as it is without d's
none_at : (d : ℕ) (u : Ticket) (tickets : List Ticket) (b : Bool) → cond b (Some u) (ticket_of d tickets) ≡ None → (ticket_of d tickets ≡ None → without d tickets ≡ tickets) → cond (not b) (u ∷ without d tickets) (without d tickets) ≡ u ∷ tickets
none_at d u tickets true none rest = cc
none_at d u tickets false none rest = ap (λ ts. u ∷ ts) (rest none)

none_taken : (d : ℕ) (tickets : List Ticket) → ticket_of d tickets ≡ None → without d tickets ≡ tickets
none_taken d [] none = refl
none_taken d (u ∷ tickets) none = none_at d u tickets (d == u.drv) none (none_taken d tickets)

less_at : (d : ℕ) (u : Ticket) (tickets : List Ticket) (t : Ticket) (b : Bool) → (d == u.drv) ≡ b → AreApart (u ∷ tickets) → cond b (Some u) (ticket_of d tickets) ≡ Some t → (ticket_of d tickets ≡ Some t → IsOneLess d tickets t (without d tickets)) → IsOneLess d (u ∷ tickets) t (cond (not b) (u ∷ without d tickets) (without d tickets))
less_at d u tickets t true is apart found rest =
    let same : d ≡ u.drv = same_of d u.drv is in
    let it : u ≡ t = cc in
    let whole : without d tickets ≡ tickets = none_taken d tickets (none_same d u.drv tickets true is apart.0 refl) in
    subst (λ (r : List Ticket). IsOneLess d (u ∷ tickets) t r) (sym whole)
    (subst (λ (v : Ticket). IsOneLess d (u ∷ tickets) v tickets) it
    (subst (λ (x : ℕ). IsOneLess x (u ∷ tickets) u tickets) (sym same) (head_less u tickets apart)))
less_at d u tickets t false is apart found rest = tail_less d u tickets t (without d tickets) is apart found (rest found)

one_less : (d : ℕ) (tickets : List Ticket) (t : Ticket) → AreApart tickets → ticket_of d tickets ≡ Some t → IsOneLess d tickets t (without d tickets)
one_less d [] t apart found = let no_way : ⊥ = cc in absurd no_way
one_less d (u ∷ tickets) t apart found = less_at d u tickets t (d == u.drv) refl apart found (one_less d tickets t apart.2)

-- the tables lost the ticket t of derivation d
pub record IsEnded (old : Tables) (d : ℕ) (t : Ticket) (new : Tables) : Type 0 where
  pub holders : new.holders ≡ set old.holders d None
  pub loads : new.loads ≡ set old.loads t.machine (load_at old t.machine - 1)
  pub rows : new.rows ≡ set old.rows t.machine (set (row_at old t.machine) t.slot None)
  pub len : new.len ≡ old.len - 1

-- .. which lies within them
pub record IsWithin (old : Tables) (d : ℕ) (t : Ticket) : Type 0 where
  pub drv : d < length old.holders
  pub machine : t.machine < length old.loads
  pub row : t.machine < length old.rows
  pub slot : t.slot < room_at old t.machine
  pub load : 0 < load_at old t.machine
  pub count : 0 < old.len

slot_within : (row : List (Option ℕ)) (s : ℕ) (o : Option Ticket) → (o ≡ None → ⊥) → get_or row s None ≡ drv_of o → s < length row
slot_within row s None some is = absurd (some refl)
slot_within row s (Some t) some is = within row s t.drv is

pub held_within : (old : Tables) (tickets : List Ticket) (d : ℕ) (t : Ticket) → AreTabled old tickets → length old.rows ≡ length old.loads → holder_at old d ≡ Some t → IsWithin old d t
held_within old tickets d t tabled sized held =
    let found : ticket_of d tickets ≡ Some t = sym (tabled.holders d) ∙ held in
    let there = found_passes (λ (u : Ticket). d == u.drv) (is_on t.machine t.slot) tickets t found (rw (same_self t.machine, same_self t.slot) refl) in
    let slot : t.slot < room_at old t.machine = slot_within (row_at old t.machine) t.slot (ticket_on t.machine t.slot tickets) there (tabled.slots t.machine t.slot) in
    let row : t.machine < length old.rows = row_within old.rows t.machine t.slot slot in
    let less = one_less d tickets t tabled.apart found in
    let one : tickets_on t.machine tickets ≡ tickets_on t.machine (without d tickets) + 1 = subst (λ (b : Bool). tickets_on t.machine tickets ≡ cond b (tickets_on t.machine (without d tickets) + 1) (tickets_on t.machine (without d tickets))) (same_self t.machine) (less.loads t.machine) in
    record {
      drv = within old.holders d t held;
      machine = omega (arith, row, sized);
      row = row;
      slot = slot;
      load = omega (arith, tabled.loads t.machine, one);
      count = omega (arith, tabled.count, less.count);
    }

lowered : (b : Bool) (m n x y x' y' r r' : ℕ) → (b ≡ true → m ≡ n) → (m ≡ n → x ≡ y) → x ≡ x' → x' ≡ cond b (r + 1) r → cond b (y - 1) x ≡ r
lowered true m n x y x' y' r r' same eq p q = let is : x ≡ y = eq (same refl) in omega arith
lowered false m n x y x' y' r r' same eq p q = p ∙ q

off : (b : Bool) (o rest : Option Ticket) (x : Option ℕ) → rest ≡ cond b None o → x ≡ drv_of o → cond b None x ≡ drv_of rest
off true o rest x is same = ap drv_of (sym is)
off false o rest x is same = same ∙ ap drv_of (sym is)

pub ended : (old : Tables) (d : ℕ) (t : Ticket) (new : Tables) (tickets : List Ticket) → length old.rows ≡ length old.loads → holder_at old d ≡ Some t → IsEnded old d t new → AreTabled old tickets → AreTabled new (without d tickets)
ended old d t new tickets sized held is tabled =
    let lies = held_within old tickets d t tabled sized held in
    let less = one_less d tickets t tabled.apart (sym (tabled.holders d) ∙ held) in
    record {
      apart = less.apart;
      holders = λ e.
          ap (λ hs. get_or hs e None) is.holders
          ∙ put_at old.holders d e None None lies.drv
          ∙ ap (λ (o : Option Ticket). cond (e == d) None o) (tabled.holders e)
          ∙ sym (less.holders e);
      loads = λ m.
          ap (λ ls. get_or ls m 0) is.loads
          ∙ put_at old.loads t.machine m (load_at old t.machine - 1) 0 lies.machine
          ∙ lowered (m == t.machine) m t.machine (load_at old m) (load_at old t.machine) (tickets_on m tickets) 0 (tickets_on m (without d tickets)) 0 (same_of m t.machine) (λ e. ap (load_at old) e) (tabled.loads m) (less.loads m);
      slots = λ m s.
          slot_put old new.rows t.machine t.slot None lies.row lies.slot is.rows m s
          ∙ off (is_on m s t) (ticket_on m s tickets) (ticket_on m s (without d tickets)) (slot_at old m s) (less.slots m s) (tabled.slots m s);
      count = is.len ∙ omega (arith, tabled.count, less.count);
    }

-- where d has no ticket nothing is taken out
pub not_ended : (old : Tables) (d : ℕ) (tickets : List Ticket) → holder_at old d ≡ None → AreTabled old tickets → AreTabled old (without d tickets)
not_ended old d tickets none tabled = subst (λ (ts : List Ticket). AreTabled old ts) (sym (none_taken d tickets (sym (tabled.holders d) ∙ none))) tabled

-- ---- other changes

-- tables that have the same for each derivation, machine and slot hold the same tickets
pub record HaveSame (old new : Tables) : Type 0 where
  pub holders : new.holders ≡ old.holders
  pub loads : new.loads ≡ old.loads
  pub slots : (m s : ℕ) → slot_at new m s ≡ slot_at old m s
  pub len : new.len ≡ old.len

pub same_held : (old new : Tables) (tickets : List Ticket) → HaveSame old new → AreTabled old tickets → AreTabled new tickets
same_held old new tickets same tabled = record {
  apart = tabled.apart;
  holders = λ d. ap (λ hs. get_or hs d None) same.holders ∙ tabled.holders d;
  loads = λ m. ap (λ ls. get_or ls m 0) same.loads ∙ tabled.loads m;
  slots = λ m s. same.slots m s ∙ tabled.slots m s;
  count = same.len ∙ tabled.count;
}

-- ---- what a `Leases` keeps

pub has_room : (l : Inside) (now : Tables) (t : Ticket) → tables_of l ≡ now → AreWhole l → t.drv < length now.holders → holder_at now t.drv ≡ None → t.slot < room_at now t.machine → slot_at now t.machine t.slot ≡ None → IsRoomFor (tables_of l) t
has_room l now t view whole drv unleased slot free =
    subst (λ (ts : Tables). IsRoomFor ts t) (sym view)
    (room_given now t (subst (λ (ts : Tables). length ts.rows ≡ length ts.loads) view whole.rows) drv unleased slot free)

pub begun_whole : (l new : Inside) (t : Ticket) → AreWhole l → IsRoomFor (tables_of l) t → IsBegun (tables_of l) t (tables_of new) → length new.started.items ≡ length l.started.items → AreWhole new
begun_whole l new t whole room is marks = record {
  tickets = t ∷ whole.tickets;
  tabled = begun (tables_of l) t (tables_of new) whole.tickets room is whole.tabled;
  marks = marks ∙ whole.marks ∙ sym (ap length is.holders ∙ length-set l.holders.items t.drv (Some t));
  rows = ap length is.rows ∙ length-set l.rows.items t.machine _ ∙ whole.rows ∙ sym (ap length is.loads ∙ length-set l.loads.items t.machine _);
}

pub begun_now : (l : Inside) (new now : Tables) (t : Ticket) (tickets : List Ticket) → tables_of l ≡ now → IsRoomFor (tables_of l) t → IsBegun (tables_of l) t new → AreTabled now tickets → AreTabled new (t ∷ tickets)
begun_now l new now t tickets view room is tabled = begun (tables_of l) t new tickets room is (subst (λ (ts : Tables). AreTabled ts tickets) (sym view) tabled)

-- the ticket that is answered for a derivation is the one that the tables have
pub has_ticket : (l : Inside) (now : Tables) (d : ℕ) (t : Ticket) (o : Option Ticket) → tables_of l ≡ now → AreWhole l → ((tickets : List Ticket) → AreTabled now tickets → o ≡ ticket_of d tickets) → o ≡ Some t → holder_at (tables_of l) d ≡ Some t
has_ticket l now d t o view whole answers is = whole.tabled.holders d ∙ sym (answers whole.tickets (subst (λ (ts : Tables). AreTabled ts whole.tickets) view whole.tabled)) ∙ is

pub lies_within : (l : Inside) (now : Tables) (d : ℕ) (t : Ticket) (o : Option Ticket) → tables_of l ≡ now → AreWhole l → ((tickets : List Ticket) → AreTabled now tickets → o ≡ ticket_of d tickets) → o ≡ Some t → IsWithin (tables_of l) d t
lies_within l now d t o view whole answers is = held_within (tables_of l) whole.tickets d t whole.tabled whole.rows (has_ticket l now d t o view whole answers is)

pub ended_whole : (l new : Inside) (d : ℕ) (t : Ticket) → AreWhole l → holder_at (tables_of l) d ≡ Some t → IsEnded (tables_of l) d t (tables_of new) → new.started.items ≡ l.started.items → AreWhole new
ended_whole l new d t whole held is marks = record {
  tickets = without d whole.tickets;
  tabled = ended (tables_of l) d t (tables_of new) whole.tickets whole.rows held is whole.tabled;
  marks = ap length marks ∙ whole.marks ∙ sym (ap length is.holders ∙ length-set l.holders.items d None);
  rows = ap length is.rows ∙ length-set l.rows.items t.machine _ ∙ whole.rows ∙ sym (ap length is.loads ∙ length-set l.loads.items t.machine _);
}

pub ended_now : (l : Inside) (new now : Tables) (d : ℕ) (t : Ticket) (tickets : List Ticket) → tables_of l ≡ now → AreWhole l → holder_at (tables_of l) d ≡ Some t → IsEnded (tables_of l) d t new → AreTabled now tickets → AreTabled new (without d tickets)
ended_now l new now d t tickets view whole held is tabled = ended (tables_of l) d t new tickets whole.rows held is (subst (λ (ts : Tables). AreTabled ts tickets) (sym view) tabled)

nothing : (o : Option Ticket) → ((t : Ticket) → o ≡ Some t → ⊥) → o ≡ None
nothing None none = refl
nothing (Some t) none = absurd (none t refl)

-- where none is answered for a derivation nothing is taken out
pub none_ended : (now : Tables) (d : ℕ) (tickets : List Ticket) (o : Option Ticket) → ((ts : List Ticket) → AreTabled now ts → o ≡ ticket_of d ts) → ((t : Ticket) → o ≡ Some t → ⊥) → AreTabled now tickets → AreTabled now (without d tickets)
none_ended now d tickets o answers none tabled = not_ended now d tickets (tabled.holders d ∙ sym (answers tickets tabled) ∙ nothing o none) tabled

same_item : {X : Type 0} → (n : ℕ) (x : X) (i : ℕ) → get_or (replicate n x) i x ≡ x
same_item zero x i = get_or_past (replicate 0 x) i x (omega arith)
same_item (suc n) x zero = refl
same_item (suc n) x (suc i) = same_item n x i

-- tables in which nothing is put hold no ticket
pub none_tabled : (new : Tables) (drvs machines : ℕ) → new.holders ≡ replicate drvs None → new.loads ≡ replicate machines 0 → new.rows ≡ replicate machines [] → new.len ≡ 0 → AreTabled new []
none_tabled new drvs machines holders loads rows len = record {
  apart = tt;
  holders = λ d. ap (λ hs. get_or hs d None) holders ∙ same_item drvs None d;
  loads = λ m. ap (λ ls. get_or ls m 0) loads ∙ same_item machines 0 m;
  slots = λ m s. ap (λ (rs : List (List (Option ℕ))). get_or (get_or rs m []) s None) rows ∙ ap (λ (r : List (Option ℕ)). get_or r s None) (same_item machines [] m);
  count = len;
}
