-- Lemmas on the leases that no worker serves.
use Rattle.std.proofs.Common.{◌≡◌, ℕ, ◌+◌, ◌<◌, ◌≤◌, Bool, true, false, not, ◌==◌, ◌&&◌, ◌||◌, cond, if◌then◌else◌, List, [], ◌∷◌, ◌++◌, map, reverse, count_by, Option, Some, None, refl, sym, ap, ◌∙◌, subst, arith, append_assoc}
use Rattle.std.proofs.lemmas.Grind.{common_steps, flat_map-append}
use Rattle.std.proofs.lemmas.List.{append-nil}
use Rattle.std.proofs.lemmas.List.Elements.{filter_map-append}
use Rattle.std.proofs.lemmas.List.FromFn.{map-range_with_len_more}
use Rattle.std.specs.List.{find, filter, filter_map, flat_map, cons_option, list_any, range_with_len}
use Rattle.nd_history.specs.declared.entry.Entry.{Entry}
use Rattle.nd_history.specs.declared.entry.Entry.TheVariants.{Failed, Stop}
use Rattle.nd_leases.specs.declared.ticket.Ticket.{Ticket}
use Rattle.nd_history.specs.declared.entry.Why.{Why}
use Rattle.nd_history.specs.Premises.{Premises}
use Rattle.nd_history.specs.History.{live, current_of, has_stop}
use Rattle.nd_leases.specs.Tickets.{is_on}
use Rattle.nd_history.specs.Headline.{LeasesAreInOrder}
use Rattle.nd_history.specs.Choices.{machines_in, jobs_of}
use Rattle.nd_history.proofs.Slots.{count_cons, same_of}
use Rattle.nd_history.proofs.Provisions.{found_passes, found_any}
use Rattle.nd_history.proofs.Following.{newest_first}
use Rattle.nd_ledger.specs.Worlds.{World}
use Rattle.nd_ledger.specs.Refusals.{IsLive, IsStopRefused}
use Rattle.nd_ledger.specs.declared.refusal.Refusal.{Refusal}
use Rattle.nd_ledger.specs.declared.refusal.Refusal.TheVariants.{NotLive, AlreadyStarted, NotStarted, Uncovered, Extra, BadReferences, AlreadyStopped, Memory}
use Rattle.nd_history.specs.Legal.{IsLegal}
use Rattle.nd_run_desk.specs.Abandoned.{places_on, places_of, is_manned, end_of, given_up_at, stop_after, last_entries, LeavesOthers, LeavesOtherMachines}

-- ---- one item that is found

any_counted : {X : Type 0} → (q : X → Bool) (xs : List X) → list_any q xs ≡ true → 1 ≤ count_by q xs
any_counted q [] h = cc
any_counted q (x ∷ xs) h = rw (count_cons q x xs) (by (q x) h (any_counted q xs))
  where
    by : (b : Bool) → (b || list_any q xs) ≡ true → (list_any q xs ≡ true → 1 ≤ count_by q xs) → 1 ≤ cond b (count_by q xs + 1) (count_by q xs)
    by true h rest = omega arith
    by false h rest = rest h

-- what is found by one test is found by another that it passes, and that no other item passes
pub found_once : {X : Type 0} → (p q : X → Bool) (xs : List X) (t : X) → q t ≡ true → find p xs ≡ Some t → count_by q xs ≤ 1 → find q xs ≡ Some t
found_once p q [] t hit h once = cc
found_once p q (y ∷ xs) t hit h once = by (p y) (q y) refl h (rw (count_cons q y xs) at once) (found_once p q xs t hit)
  where
    by : (b c : Bool) → q y ≡ c → cond b (Some y) (find p xs) ≡ Some t → cond c (count_by q xs + 1) (count_by q xs) ≤ 1 → (find p xs ≡ Some t → count_by q xs ≤ 1 → find q xs ≡ Some t) → cond c (Some y) (find q xs) ≡ Some t
    by true true is here few rest = here
    by true false is here few rest = let same : y ≡ t = cc in cc (ap q same)
    by false true is later few rest = let some = any_counted q xs (found_any p q xs t later hit) in absurd (omega arith)
    by false false is later few rest = rest later few

-- none passes, so none is taken out
none_out : {X : Type 0} → (q : X → Bool) (xs : List X) → count_by q xs ≡ 0 → filter (λ x. not (q x)) xs ≡ xs
none_out q [] h = refl
none_out q (y ∷ xs) h = by (q y) (rw (count_cons q y xs) at h) (none_out q xs)
  where
    by : (c : Bool) → cond c (count_by q xs + 1) (count_by q xs) ≡ 0 → (count_by q xs ≡ 0 → filter (λ x. not (q x)) xs ≡ xs) → cond (not c) (y ∷ filter (λ x. not (q x)) xs) (filter (λ x. not (q x)) xs) ≡ y ∷ xs
    by true h rest = absurd (omega arith)
    by false h rest = ap (λ ys. y ∷ ys) (rest h)

-- with that one item taken out, another test that it doesn't pass finds what it found
pub found_beside : {X : Type 0} → (p q r : X → Bool) (xs : List X) (t : X) → q t ≡ true → r t ≡ false → find p xs ≡ Some t → count_by q xs ≤ 1 → find r (filter (λ x. not (q x)) xs) ≡ find r xs
found_beside p q r [] t hit miss h once = refl
found_beside p q r (y ∷ xs) t hit miss h once = by (p y) (q y) refl h (rw (count_cons q y xs) at once) (found_beside p q r xs t hit miss)
  where
    by : (b c : Bool) → q y ≡ c → cond b (Some y) (find p xs) ≡ Some t → cond c (count_by q xs + 1) (count_by q xs) ≤ 1 → (find p xs ≡ Some t → count_by q xs ≤ 1 → find r (filter (λ x. not (q x)) xs) ≡ find r xs)
        → find r (cond (not c) (y ∷ filter (λ x. not (q x)) xs) (filter (λ x. not (q x)) xs)) ≡ cond (r y) (Some y) (find r xs)
    by true true is here few rest =
        let same : y ≡ t = cc in
        let missed : r y ≡ false = ap r same ∙ miss in
        ap (find r) (none_out q xs (omega arith)) ∙ sym (ap (λ (b : Bool). cond b (Some y) (find r xs)) missed)
    by true false is here few rest = let same : y ≡ t = cc in cc (ap q same)
    by false true is later few rest = let some = any_counted q xs (found_any p q xs t later hit) in absurd (omega arith)
    by false false is later few rest = ap (λ o. cond (r y) (Some y) o) (rest later few)

-- ---- one lease less

both : (a b : Bool) → (a && b) ≡ true → (a ≡ true) × (b ≡ true)
both true b h = (refl, h)
both false b h = cc

same_number : (n : ℕ) → (n == n) ≡ true
same_number n = grind (arith, common_steps)

other_place : (m s n k : ℕ) (t : Ticket) → is_on m s t ≡ true → ((n ≡ m) × (k ≡ s) → ⊥) → is_on n k t ≡ false
other_place m s n k t here apart = by (is_on n k t) refl
  where
    by : (b : Bool) → is_on n k t ≡ b → b ≡ false
    by false is = refl
    by true is =
        let mine = both (m == t.machine) (s == t.slot) here in
        let its = both (n == t.machine) (k == t.slot) is in
        absurd (apart (same_of n t.machine its.0 ∙ sym (same_of m t.machine mine.0), same_of k t.slot its.1 ∙ sym (same_of s t.slot mine.1)))

-- the lease that is live on a place is its derivation's
pub live_there : (i : Premises) (past : List Entry) (m s : ℕ) (t : Ticket) → LeasesAreInOrder i past → current_of m s past ≡ Some t → IsLive past t
live_there i past m s t order found = found_once (is_on m s) (λ (u : Ticket). t.drv == u.drv) (live past) t (same_number t.drv) found (order.once t.drv)

pub one_less : (i : Premises) (old new : List Entry) (m s : ℕ) (t : Ticket) (why : Why) → LeasesAreInOrder i (reverse old) → current_of m s (reverse old) ≡ Some t → new ≡ old ++ Failed t.drv why ∷ [] → LeavesOthers m s (reverse old) (reverse new)
one_less i old new m s t why order found grown =
    let here = found_passes (is_on m s) (live (reverse old)) t found in
    let P : List Entry → Type 0 = λ past. LeavesOthers m s (reverse old) past in
    subst P (sym (newest_first old new (Failed t.drv why) grown))
    (record { each = λ n k apart. found_beside (is_on m s) (λ (u : Ticket). t.drv == u.drv) (is_on n k) (live (reverse old)) t (same_number t.drv) (other_place m s n k t here apart) found (order.once t.drv) })

pub leaves_same : (m s : ℕ) (past : List Entry) → LeavesOthers m s past past
leaves_same m s past = record { each = λ n k apart. refl }

-- ---- the slots of a machine, one after another

pub record IsGivenUp (manned : List (ℕ × ℕ)) (m s : ℕ) (old now : World) : Type 0 where
  pub inputs : now.inputs ≡ old.inputs
  pub history : now.history ≡ old.history ++ filter_map (given_up_at manned (reverse old.history)) (map (λ k. (m, k)) (range_with_len 0 s))
  pub later : (n k : ℕ) → ((n ≡ m) × (k < s) → ⊥) → current_of n k (reverse now.history) ≡ current_of n k (reverse old.history)

pub machine_first : (manned : List (ℕ × ℕ)) (m : ℕ) (old : World) → IsGivenUp manned m 0 old old
machine_first manned m old = record { inputs = refl; history = sym (append-nil old.history); later = λ n k apart. refl }

-- the same is recorded of a place where the same lease is live
given_up_same : (manned : List (ℕ × ℕ)) (before after : List Entry) (m s : ℕ) → current_of m s after ≡ current_of m s before → given_up_at manned after (m, s) ≡ given_up_at manned before (m, s)
given_up_same manned before after m s same = ap (λ o. if is_manned manned (m, s) then None else end_of o) same

pub machine_more : (manned : List (ℕ × ℕ)) (m s : ℕ) (old now next : World) → IsGivenUp manned m s old now → next.inputs ≡ now.inputs → next.history ≡ now.history ++ cons_option (given_up_at manned (reverse now.history) (m, s)) [] → LeavesOthers m s (reverse now.history) (reverse next.history) → IsGivenUp manned m (s + 1) old next
machine_more manned m s old now next was inputs grown others =
    let f : ℕ × ℕ → Option Entry = given_up_at manned (reverse old.history) in
    let same : given_up_at manned (reverse now.history) (m, s) ≡ f (m, s) = given_up_same manned (reverse old.history) (reverse now.history) m s (was.later m s (λ both. let lt = both.1 in omega arith)) in
    let places : map (λ k. (m, k)) (range_with_len 0 (s + 1)) ≡ map (λ k. (m, k)) (range_with_len 0 s) ++ (m, s) ∷ [] = map-range_with_len_more (λ k. (m, k)) 0 s s (omega arith) in
    let all : filter_map f (map (λ k. (m, k)) (range_with_len 0 (s + 1))) ≡ filter_map f (map (λ k. (m, k)) (range_with_len 0 s)) ++ cons_option (f (m, s)) [] =
    ap (filter_map f) places ∙ filter_map-append f (map (λ k. (m, k)) (range_with_len 0 s)) ((m, s) ∷ []) in
    record {
      inputs = inputs ∙ was.inputs;
      history = grown ∙ ap (λ o. now.history ++ cons_option o []) same ∙ ap (λ es. es ++ cons_option (f (m, s)) []) was.history ∙ append_assoc old.history (filter_map f (map (λ k. (m, k)) (range_with_len 0 s))) (cons_option (f (m, s)) []) ∙ ap (λ es. old.history ++ es) (sym all);
      later = λ n k apart. others.each n k (λ here. apart (here.0, (let is = here.1 in omega arith))) ∙ was.later n k (λ before. apart (before.0, (let lt = before.1 in omega arith)));
    }

pub machine_done : (manned : List (ℕ × ℕ)) (m s : ℕ) (old now : World) → IsGivenUp manned m s old now → s ≡ jobs_of old.inputs m → now.history ≡ old.history ++ filter_map (given_up_at manned (reverse old.history)) (places_on old.inputs m)
machine_done manned m s old now was is =
    let P : ℕ → Type 0 = λ n. now.history ≡ old.history ++ filter_map (given_up_at manned (reverse old.history)) (map (λ k. (m, k)) (range_with_len 0 n)) in
    subst P is was.history

pub machine_others : (manned : List (ℕ × ℕ)) (m s : ℕ) (old now : World) → IsGivenUp manned m s old now → LeavesOtherMachines m (reverse old.history) (reverse now.history)
machine_others manned m s old now was = record { each = λ n k apart. was.later n k (λ here. apart here.0) }

-- ---- the machines, one after another

pub record AreGivenUp (manned : List (ℕ × ℕ)) (m : ℕ) (old now : World) : Type 0 where
  pub inputs : now.inputs ≡ old.inputs
  pub history : now.history ≡ old.history ++ filter_map (given_up_at manned (reverse old.history)) (flat_map (places_on old.inputs) (range_with_len 0 m))
  pub later : (n k : ℕ) → m ≤ n → current_of n k (reverse now.history) ≡ current_of n k (reverse old.history)

pub park_first : (manned : List (ℕ × ℕ)) (old : World) → AreGivenUp manned 0 old old
park_first manned old = record { inputs = refl; history = sym (append-nil old.history); later = λ n k le. refl }

given_up_on : (manned : List (ℕ × ℕ)) (before after : List Entry) (m : ℕ) (slots : List ℕ) → ((k : ℕ) → current_of m k after ≡ current_of m k before) → filter_map (given_up_at manned after) (map (λ k. (m, k)) slots) ≡ filter_map (given_up_at manned before) (map (λ k. (m, k)) slots)
given_up_on manned before after m [] same = refl
given_up_on manned before after m (s ∷ slots) same =
    ap (λ o. cons_option o (filter_map (given_up_at manned after) (map (λ k. (m, k)) slots))) (given_up_same manned before after m s (same s))
    ∙ ap (cons_option (given_up_at manned before (m, s))) (given_up_on manned before after m slots same)

flat_map_last : (f : ℕ → List (ℕ × ℕ)) (m : ℕ) → flat_map f (range_with_len 0 (m + 1)) ≡ flat_map f (range_with_len 0 m) ++ f m
flat_map_last f m =
    ap (flat_map f) (range_last m) ∙ flat_map-append f (range_with_len 0 m) (m ∷ []) ∙ ap (λ ps. flat_map f (range_with_len 0 m) ++ ps) (append-nil (f m))
  where
    plain : (ks : List ℕ) → map (λ k. k) ks ≡ ks
    plain [] = refl
    plain (k ∷ ks) = ap (λ js. k ∷ js) (plain ks)

    range_last : (n : ℕ) → range_with_len 0 (n + 1) ≡ range_with_len 0 n ++ n ∷ []
    range_last n = sym (plain (range_with_len 0 (n + 1))) ∙ map-range_with_len_more (λ k. k) 0 n n (omega arith) ∙ ap (λ ks. ks ++ n ∷ []) (plain (range_with_len 0 n))

pub park_more : (manned : List (ℕ × ℕ)) (m : ℕ) (old now next : World) → AreGivenUp manned m old now → next.inputs ≡ now.inputs → next.history ≡ now.history ++ filter_map (given_up_at manned (reverse now.history)) (places_on now.inputs m) → LeavesOtherMachines m (reverse now.history) (reverse next.history) → AreGivenUp manned (m + 1) old next
park_more manned m old now next was inputs grown others =
    let f : ℕ × ℕ → Option Entry = given_up_at manned (reverse old.history) in
    let here : filter_map (given_up_at manned (reverse now.history)) (places_on now.inputs m) ≡ filter_map f (places_on old.inputs m) =
    ap (λ (i : Premises). filter_map (given_up_at manned (reverse now.history)) (places_on i m)) was.inputs
    ∙ given_up_on manned (reverse old.history) (reverse now.history) m (range_with_len 0 (jobs_of old.inputs m)) (λ k. was.later m k (omega arith)) in
    let all : filter_map f (flat_map (places_on old.inputs) (range_with_len 0 (m + 1))) ≡ filter_map f (flat_map (places_on old.inputs) (range_with_len 0 m)) ++ filter_map f (places_on old.inputs m) =
    ap (filter_map f) (flat_map_last (places_on old.inputs) m) ∙ filter_map-append f (flat_map (places_on old.inputs) (range_with_len 0 m)) (places_on old.inputs m) in
    record {
      inputs = inputs ∙ was.inputs;
      history = grown ∙ ap (λ es. now.history ++ es) here ∙ ap (λ es. es ++ filter_map f (places_on old.inputs m)) was.history ∙ append_assoc old.history (filter_map f (flat_map (places_on old.inputs) (range_with_len 0 m))) (filter_map f (places_on old.inputs m)) ∙ ap (λ es. old.history ++ es) (sym all);
      later = λ n k le. others.each n k (λ is. absurd (omega arith)) ∙ was.later n k (omega arith);
    }

-- ---- the stop before them

-- a stop is recorded where none stood
pub stop_recorded : (i : Premises) (old new : World) → new ≡ record old { history = old.history ++ Stop ∷ [] } → IsLegal i (reverse new.history) → new ≡ record old { history = old.history ++ stop_after (reverse old.history) }
stop_recorded i old new is legal =
    let turned : reverse new.history ≡ Stop ∷ reverse old.history = newest_first old.history new.history Stop (ap (λ (w : World). w.history) is) in
    let allowed : IsLegal i (Stop ∷ reverse old.history) = subst (IsLegal i) turned legal in
    let P : Bool → Type 0 = λ b. new ≡ record old { history = old.history ++ (if b then [] else Stop ∷ []) } in
    subst P (sym allowed.0.may) is

-- .. and else nothing is
pub stop_stands : (old new : World) (e : Refusal) → new ≡ old → IsStopRefused (reverse old.history) e → new ≡ record old { history = old.history ++ stop_after (reverse old.history) }
stop_stands old new e is refused =
    let P : Bool → Type 0 = λ b. new ≡ record old { history = old.history ++ (if b then [] else Stop ∷ []) } in
    subst P (sym (stands e refused)) (is ∙ ap (λ es. let w : World = record old { history = es } in w) (sym (append-nil old.history)))
  where
    stands : (r : Refusal) → IsStopRefused (reverse old.history) r → has_stop (reverse old.history) ≡ true
    stands AlreadyStopped h = h
    stands NotLive h = absurd h
    stands AlreadyStarted h = absurd h
    stands NotStarted h = absurd h
    stands Uncovered h = absurd h
    stands Extra h = absurd h
    stands BadReferences h = absurd h
    stands Memory h = absurd h

-- after a stop the same leases are live
stopped_same : (past : List Entry) (n k : ℕ) (b : Bool) → current_of n k ((if b then [] else Stop ∷ []) ++ past) ≡ current_of n k past
stopped_same past n k true = refl
stopped_same past n k false = refl

stop_first : (b : Bool) (items : List Entry) → reverse (items ++ (if b then [] else Stop ∷ [])) ≡ (if b then [] else Stop ∷ []) ++ reverse items
stop_first true items = ap reverse (append-nil items)
stop_first false items = newest_first items (items ++ Stop ∷ []) Stop refl

given_up_all : (manned : List (ℕ × ℕ)) (before after : List Entry) (places : List (ℕ × ℕ)) → ((n k : ℕ) → current_of n k after ≡ current_of n k before) → filter_map (given_up_at manned after) places ≡ filter_map (given_up_at manned before) places
given_up_all manned before after [] same = refl
given_up_all manned before after (p ∷ places) same =
    ap (λ o. cons_option o (filter_map (given_up_at manned after) places)) (given_up_same manned before after p.0 p.1 (same p.0 p.1))
    ∙ ap (cons_option (given_up_at manned before p)) (given_up_all manned before after places same)

world_is : (w : World) (i : Premises) (es : List Entry) → w.inputs ≡ i → w.history ≡ es → w ≡ record { inputs = i; history = es }
world_is w i es inputs history =
    let f : Premises → World = λ x. record { inputs = x; history = w.history } in
    let g : List Entry → World = λ y. record { inputs = i; history = y } in
    ap f inputs ∙ ap g history

pub all_given_up : (manned : List (ℕ × ℕ)) (m : ℕ) (old stopped now : World) → stopped ≡ record old { history = old.history ++ stop_after (reverse old.history) } → AreGivenUp manned m stopped now → m ≡ machines_in old.inputs → now ≡ record old { history = old.history ++ last_entries old.inputs manned (reverse old.history) }
all_given_up manned m old stopped now is was count =
    let inputs : stopped.inputs ≡ old.inputs = ap (λ (w : World). w.inputs) is in
    let begun : stopped.history ≡ old.history ++ stop_after (reverse old.history) = ap (λ (w : World). w.history) is in
    let turned : reverse stopped.history ≡ stop_after (reverse old.history) ++ reverse old.history = ap reverse begun ∙ stop_first (has_stop (reverse old.history)) old.history in
    let places : flat_map (places_on stopped.inputs) (range_with_len 0 m) ≡ places_of old.inputs = ap (λ (i : Premises). flat_map (places_on i) (range_with_len 0 m)) inputs ∙ ap (λ (n : ℕ). flat_map (places_on old.inputs) (range_with_len 0 n)) count in
    let same : (n k : ℕ) → current_of n k (reverse stopped.history) ≡ current_of n k (reverse old.history) = λ n k. ap (current_of n k) turned ∙ stopped_same (reverse old.history) n k (has_stop (reverse old.history)) in
    let all : filter_map (given_up_at manned (reverse stopped.history)) (flat_map (places_on stopped.inputs) (range_with_len 0 m)) ≡ filter_map (given_up_at manned (reverse old.history)) (places_of old.inputs) =
    ap (filter_map (given_up_at manned (reverse stopped.history))) places ∙ given_up_all manned (reverse old.history) (reverse stopped.history) (places_of old.inputs) same in
    let history : now.history ≡ old.history ++ last_entries old.inputs manned (reverse old.history) =
    was.history ∙ ap (λ es. stopped.history ++ es) all ∙ ap (λ es. es ++ filter_map (given_up_at manned (reverse old.history)) (places_of old.inputs)) begun ∙ append_assoc old.history (stop_after (reverse old.history)) (filter_map (given_up_at manned (reverse old.history)) (places_of old.inputs)) in
    world_is now old.inputs (old.history ++ last_entries old.inputs manned (reverse old.history)) (was.inputs ∙ inputs) history
