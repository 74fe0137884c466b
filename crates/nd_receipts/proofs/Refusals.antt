-- Lemmas on entries of a run that aren't the receipts, which are found by going through them.
use Rattle.std.proofs.Common.{◌≡◌, ◌⊎◌, ◌≢◌, ℕ, zero, suc, ◌+◌, ◌<◌, ◌≤◌, Bool, true, false, ◌==◌, if◌then◌else◌, List, [], ◌∷◌, ◌++◌, map, reverse, length, take, drop, get_or, set, replicate, slice_get, Option, Some, None, option_map, refl, sym, ap, ◌∙◌, subst, arith, inl, inr}
use Rattle.std.proofs.lemmas.Bool.{cases_eq, ne_eqb, eq-eqb}
use Rattle.std.proofs.lemmas.List.{drop_all, drop_more, length-map, length-set}
use Rattle.std.proofs.lemmas.Option.{none-some, same_Some, slice_get_past, slice_get_within, slice_get-map, slice_get-get_or}
use Rattle.std.specs.List.{AllZip, cons_option}
use Rattle.nd_history.specs.declared.entry.Entry.{Entry}
use Rattle.nd_history.specs.declared.entry.Entry.TheVariants.{Chosen, NoBuilder, Started, Down, Built, Failed, Stop, Drain, Enable}
use Rattle.nd_history.specs.declared.entry.Why.{Why}
use Rattle.nd_receipts.specs.declared.receipt.Receipt.{Receipt}
use Rattle.nd_receipts.specs.declared.receipt.Kind.{Kind}
use Rattle.nd_receipts.specs.Dealt.{place_of, made_as, mark_by, marks_on, marks_of, AreApart, IsOnPlace, HasWorker, HaveWorkers, AreReceipted}
use Rattle.nd_receipts.specs.Walks.{IsMet, AreLeft, IsNoPlace, IsNoPlaceBelow, IsNobodys, AreWithin, Tracks, TracksOn, IsUnmet, IsDealtOn, IsUndealt, AreUnmet}
use Rattle.nd_receipts.proofs.Crossings.{get_set_within, get_set_other, replicate_at, drop_at, marks_more, place_self, place_other, turned_more}

-- ---- lists

some_at : {A : Type 0} (xs : List A) (k : ℕ) → k < length xs → (x : A) × (slice_get xs k ≡ Some x)
some_at [] k lt = absurd (omega arith)
some_at (x ∷ xs) zero lt = (x, refl)
some_at (x ∷ xs) (suc k) lt = some_at xs k (omega arith)

zip_at : {A B : Type 0} (R : A → B → Type 0) (xs : List A) (ys : List B) (k : ℕ) (x : A) (y : B) → AllZip R xs ys → slice_get xs k ≡ Some x → slice_get ys k ≡ Some y → R x y
zip_at R [] ys k x y all a b = absurd (none-some x (sym (slice_get_past [] k (omega arith)) ∙ a))
zip_at R (p ∷ xs) [] k x y all a b = absurd all
zip_at {A = A} {B = B} R (p ∷ xs) (q ∷ ys) zero x y all a b =
    let P : A → Type 0 = λ v. R v y in
    let Q : B → Type 0 = λ v. R p v in
    subst P (same_Some p x a) (subst Q (same_Some q y b) all.0)
zip_at R (p ∷ xs) (q ∷ ys) (suc k) x y all a b = zip_at R xs ys k x y all.1 a b

abbrev rest_of : {A : Type 0} → List A → List A
rest_of [] = []
rest_of (x ∷ xs) = xs

abbrev first_or : {A : Type 0} → A → List A → A
first_or a [] = a
first_or a (x ∷ xs) = x

drop_first : {A : Type 0} (xs : List A) (k : ℕ) (r : A) (rest : List A) → drop k xs ≡ r ∷ rest → slice_get xs k ≡ Some r
drop_first [] zero r rest is = absurd (cc)
drop_first [] (suc k) r rest is = absurd (cc)
drop_first (x ∷ xs) zero r rest is = ap (λ ys. slice_get ys 0) is
drop_first (x ∷ xs) (suc k) r rest is = drop_first xs k r rest is

marks_long : (rs : List Receipt) → length (marks_of rs) ≡ length rs
marks_long rs = length-map rs (λ r. (r.index, r.kind))

drop_long : {A : Type 0} (n : ℕ) (xs : List A) → drop n xs ≡ [] → length xs ≤ n
drop_long n [] none = omega arith
drop_long zero (x ∷ xs) none = absurd (cc)
drop_long (suc n) (x ∷ xs) none = let rest = drop_long n xs none in omega arith

none_long : {A : Type 0} (xs : List A) → length xs ≡ 0 → xs ≡ []
none_long [] is = refl
none_long (x ∷ xs) is = absurd (omega arith)

-- ---- places

pub no_place_first : (places : List (ℕ × ℕ)) (m s : ℕ) → IsNoPlaceBelow 0 places m s
no_place_first places m s = record { each = λ worker lt. absurd (omega arith) }

pub no_place_more : (places : List (ℕ × ℕ)) (m s n : ℕ) (p : ℕ × ℕ) → IsNoPlaceBelow n places m s → slice_get places n ≡ Some p → (p ≡ (m, s) → ⊥) → IsNoPlaceBelow (n + 1) places m s
no_place_more places m s n p below there other = record { each = λ worker lt is. by worker lt is (cases_eq worker n) }
  where
    by : (worker : ℕ) → worker < n + 1 → slice_get places worker ≡ Some (m, s) → (worker ≡ n) ⊎ (worker ≡ n → ⊥) → ⊥
    by worker lt is (inl same) =
        let P : ℕ → Type 0 = λ k. slice_get places k ≡ Some (m, s) in
        other (same_Some p (m, s) (sym there ∙ subst P same is))
    by worker lt is (inr ne) = below.each worker (let apart : worker ≢ n = ne in omega arith) is

pub no_place_last : (places : List (ℕ × ℕ)) (m s n : ℕ) → IsNoPlaceBelow n places m s → length places ≤ n → IsNoPlace places m s
no_place_last places m s n below all = record { each = λ worker is. below.each worker (let lt = slice_get_within places worker (m, s) is in omega arith) is }

pub on_place : (places : List (ℕ × ℕ)) (d m s w : ℕ) → slice_get places w ≡ Some (m, s) → IsOnPlace places (Chosen d m s)
on_place places d m s w there = record { each = λ e n t is. (w, there ∙ ap place is) }
  where
    place : Entry → Option (ℕ × ℕ)
    place (Chosen d m s) = Some (m, s)
    place (NoBuilder d) = None
    place (Started d paths) = None
    place (Down d) = None
    place (Built d refs) = None
    place (Failed d why) = None
    place Stop = None
    place (Drain m) = None
    place (Enable m) = None

pub nobodys : (places : List (ℕ × ℕ)) (d m s : ℕ) → IsNoPlace places m s → IsNobodys places (Chosen d m s)
nobodys places d m s none = record { drv = d; machine = m; slot = s; is = refl; nobody = none }

-- ---- the table of choices

tracks_chosen : (places : List (ℕ × ℕ)) (choices : List ℕ) (past : List Entry) (d m s w : ℕ) → AreApart places → d < length choices → Tracks places choices past → slice_get places w ≡ Some (m, s) → Tracks places (set choices d w) (Chosen d m s ∷ past)
tracks_chosen places choices past d m s w apart within tracks there = record { each = λ e v p leased at. by e v p leased at (cases_eq e d) }
  where
    by : (e v : ℕ) (p : ℕ × ℕ) → (if e == d then Some (m, s) else place_of e past) ≡ Some p → slice_get places v ≡ Some p → (e ≡ d) ⊎ (e ≡ d → ⊥) → slice_get (set choices d w) e ≡ Some v
    by e v p leased at (inl same) =
        let found : (m, s) ≡ p = same_Some (m, s) p (sym (ap (λ (b : Bool). if b then Some (m, s) else place_of e past) (eq-eqb e d same)) ∙ leased) in
        let own : w ≡ v = apart.each w v p (there ∙ ap (λ (q : ℕ × ℕ). Some q) found) at in
        let old = some_at choices d within in
        let Q : ℕ → Type 0 = λ n. slice_get (set choices d w) n ≡ Some v in
        subst Q (sym same) (get_set_within choices d w old.0 old.1 ∙ ap (λ (n : ℕ). Some n) own)
    by e v p leased at (inr other) =
        get_set_other choices d e w other ∙ tracks.each e v p (sym (ap (λ (b : Bool). if b then Some (m, s) else place_of e past) (ne_eqb e d other)) ∙ leased) at

pub tracks_on_chosen : (places : List (ℕ × ℕ)) (choices after : List ℕ) (d m s w : ℕ) → slice_get places w ≡ Some (m, s) → after ≡ set choices d w → TracksOn places choices after (Chosen d m s)
tracks_on_chosen places choices after d m s w there is =
    let P : List ℕ → Type 0 = λ xs. TracksOn places choices xs (Chosen d m s) in
    subst P (sym is) (record {
      long = length-set choices d w;
      each = λ past apart within tracks. tracks_chosen places choices past d m s w apart (within d m s refl) tracks there;
    })

-- a lease on the place of none
pub tracks_on_nobodys : (places : List (ℕ × ℕ)) (choices after : List ℕ) (d m s : ℕ) → IsNoPlace places m s → after ≡ set choices d (length places) → TracksOn places choices after (Chosen d m s)
tracks_on_nobodys places choices after d m s nobody is =
    let P : List ℕ → Type 0 = λ xs. TracksOn places choices xs (Chosen d m s) in
    subst P (sym is) (record {
      long = length-set choices d (length places);
      each = λ past apart within tracks. record { each = λ e v p leased at. by past tracks e v p leased at (cases_eq e d) };
    })
  where
    by : (past : List Entry) → Tracks places choices past → (e v : ℕ) (p : ℕ × ℕ) → (if e == d then Some (m, s) else place_of e past) ≡ Some p → slice_get places v ≡ Some p → (e ≡ d) ⊎ (e ≡ d → ⊥) → slice_get (set choices d (length places)) e ≡ Some v
    by past tracks e v p leased at (inl same) =
        let found : Some (m, s) ≡ Some p = sym (ap (λ (b : Bool). if b then Some (m, s) else place_of e past) (eq-eqb e d same)) ∙ leased in
        absurd (nobody.each v (at ∙ sym found))
    by past tracks e v p leased at (inr other) =
        get_set_other choices d e (length places) other ∙ tracks.each e v p (sym (ap (λ (b : Bool). if b then Some (m, s) else place_of e past) (ne_eqb e d other)) ∙ leased) at

-- an entry that leases nothing
pub record LeasesNone (e : Entry) : Type 0 where
  pub same : (d : ℕ) (past : List Entry) → place_of d (e ∷ past) ≡ place_of d past
  pub other : (d m s : ℕ) → e ≡ Chosen d m s → ⊥

pub none_no_builder : (d : ℕ) → LeasesNone (NoBuilder d)
none_no_builder d = record { same = λ e past. refl; other = λ e m s is. cc }

pub none_started : (d : ℕ) (paths : List (List ℕ)) → LeasesNone (Started d paths)
none_started d paths = record { same = λ e past. refl; other = λ e m s is. cc }

pub none_down : (d : ℕ) → LeasesNone (Down d)
none_down d = record { same = λ e past. refl; other = λ e m s is. cc }

pub none_built : (d : ℕ) (refs : List (List (List ℕ))) → LeasesNone (Built d refs)
none_built d refs = record { same = λ e past. refl; other = λ e m s is. cc }

pub none_failed : (d : ℕ) (why : Why) → LeasesNone (Failed d why)
none_failed d why = record { same = λ e past. refl; other = λ e m s is. cc }

pub none_stop : LeasesNone Stop
none_stop = record { same = λ e past. refl; other = λ e m s is. cc }

pub none_drain : (m : ℕ) → LeasesNone (Drain m)
none_drain m = record { same = λ e past. refl; other = λ e n s is. cc }

pub none_enable : (m : ℕ) → LeasesNone (Enable m)
none_enable m = record { same = λ e past. refl; other = λ e n s is. cc }

pub on_no_place : (places : List (ℕ × ℕ)) (e : Entry) → LeasesNone e → IsOnPlace places e
on_no_place places e none = record { each = λ d m s is. absurd (none.other d m s is) }

pub tracks_on_none : (places : List (ℕ × ℕ)) (choices : List ℕ) (e : Entry) → LeasesNone e → TracksOn places choices choices e
tracks_on_none places choices e none = record {
  long = refl;
  each = λ past apart within tracks. record { each = λ d w p leased at. tracks.each d w p (sym (none.same d past) ∙ leased) at };
}

-- ---- a receipt that isn't the next

pub unmet_row : {V : Type 0} (f : V → List Receipt) (rows : List V) (worker index : ℕ) (kind : Kind) (met : List ℕ) → slice_get rows worker ≡ None → IsUnmet (map f rows) worker index kind met
unmet_row f rows worker index kind met none = record {
  each = λ row count r there at next is sort. none-some row (sym (slice_get-map f rows worker ∙ ap (option_map f) none) ∙ there);
}

pub unmet_count : (rows : List (List Receipt)) (worker index : ℕ) (kind : Kind) (met : List ℕ) → slice_get met worker ≡ None → IsUnmet rows worker index kind met
unmet_count rows worker index kind met none = record { each = λ row count r there at next is sort. none-some count (sym none ∙ at) }

pub unmet_next : {V : Type 0} (f : V → List Receipt) (rows : List V) (worker index count : ℕ) (kind : Kind) (met : List ℕ) (v : V) → slice_get rows worker ≡ Some v → slice_get met worker ≡ Some count → ((r : Receipt) → slice_get (f v) count ≡ Some r → r.index ≡ index → r.kind ≡ kind → ⊥) → IsUnmet (map f rows) worker index kind met
unmet_next f rows worker index count kind met v row at none = record { each = λ own n r there is next number sort. by own n r there is next number sort }
  where
    by : (own : List Receipt) (n : ℕ) (r : Receipt) → slice_get (map f rows) worker ≡ Some own → slice_get met worker ≡ Some n → slice_get own n ≡ Some r → r.index ≡ index → r.kind ≡ kind → ⊥
    by own n r there is next number sort =
        let rows_same : own ≡ f v = same_Some own (f v) (sym there ∙ slice_get-map f rows worker ∙ ap (option_map f) row) in
        let counts_same : n ≡ count = same_Some n count (sym is ∙ at) in
        let P : List Receipt → Type 0 = λ xs. slice_get xs n ≡ Some r in
        let Q : ℕ → Type 0 = λ k. slice_get (f v) k ≡ Some r in
        none r (subst Q counts_same (subst P rows_same next)) number sort

pub unmet_receipt : {V : Type 0} (f : V → List Receipt) (rows : List V) (worker index count : ℕ) (kind : Kind) (met : List ℕ) (v : V) → slice_get rows worker ≡ Some v → slice_get met worker ≡ Some count → slice_get (f v) count ≡ None → IsUnmet (map f rows) worker index kind met
unmet_receipt f rows worker index count kind met v row at none = unmet_next f rows worker index count kind met v row at (λ r next number sort. none-some r (sym none ∙ next))

pub unmet_index : {V : Type 0} (f : V → List Receipt) (rows : List V) (worker index count : ℕ) (kind : Kind) (met : List ℕ) (v : V) (q : Receipt) → slice_get rows worker ≡ Some v → slice_get met worker ≡ Some count → slice_get (f v) count ≡ Some q → (q.index ≡ index → ⊥) → IsUnmet (map f rows) worker index kind met
unmet_index f rows worker index count kind met v q row at there other =
    unmet_next f rows worker index count kind met v row at (λ r next number sort. other (ap (λ (x : Receipt). x.index) (same_Some q r (sym there ∙ next)) ∙ number))

pub unmet_kind : {V : Type 0} (f : V → List Receipt) (rows : List V) (worker index count : ℕ) (kind : Kind) (met : List ℕ) (v : V) (q : Receipt) → slice_get rows worker ≡ Some v → slice_get met worker ≡ Some count → slice_get (f v) count ≡ Some q → (q.kind ≡ kind → ⊥) → IsUnmet (map f rows) worker index kind met
unmet_kind f rows worker index count kind met v q row at there other =
    unmet_next f rows worker index count kind met v row at (λ r next number sort. other (ap (λ (x : Receipt). x.kind) (same_Some q r (sym there ∙ next)) ∙ sort))

-- ---- one more entry

-- the worker of the lease of an entry that a worker makes
worker_of : (places : List (ℕ × ℕ)) (choices : List ℕ) (past : List Entry) (e : Entry) (d : ℕ) (kind : Kind) → Tracks places choices past → HasWorker places past e → made_as e ≡ Some (d, kind) → (w : ℕ) × (p : ℕ × ℕ) × (slice_get choices d ≡ Some w) × (slice_get places w ≡ Some p) × (place_of d past ≡ Some p)
worker_of places choices past e d kind tracks has made =
    let found = has.each d kind made in
    (found.0, found.1, tracks.each d found.0 found.1 found.3 found.2, found.2, found.3)

-- .. is on the place that the table tells
place_is : (places : List (ℕ × ℕ)) (choices : List ℕ) (past : List Entry) (e : Entry) (d w : ℕ) (kind : Kind) (q : ℕ × ℕ) → Tracks places choices past → HasWorker places past e → made_as e ≡ Some (d, kind) → slice_get choices d ≡ Some w → slice_get places w ≡ Some q → place_of d past ≡ Some q
place_is places choices past e d w kind q tracks has made choice there =
    let found = worker_of places choices past e d kind tracks has made in
    let same : found.0 ≡ w = same_Some found.0 w (sym found.2 ∙ choice) in
    let P : ℕ → Type 0 = λ k. slice_get places k ≡ Some found.1 in
    found.4 ∙ sym (subst P same found.3) ∙ there

-- the next mark is the entry's
next_mark : (places : List (ℕ × ℕ)) (rows : List (List Receipt)) (met choices : List ℕ) (i w n : ℕ) (q : ℕ × ℕ) (row : List Receipt) (past es : List Entry) (e : Entry) (d : ℕ) (kind : Kind) → place_of d past ≡ Some q → made_as e ≡ Some (d, kind) → slice_get places w ≡ Some q → slice_get rows w ≡ Some row → slice_get met w ≡ Some n → AreLeft places rows met i past (e ∷ es) → marks_of (drop n row) ≡ (i, kind) ∷ marks_on q (i + 1) (e ∷ past) es
next_mark places rows met choices i w n q row past es e d kind place made there a b left =
    left.each w n q row there a b ∙ marks_more q i past es e d kind (Some q) true made place (place_self q)

pub undealt_choice : (places : List (ℕ × ℕ)) (rows : List (List Receipt)) (i : ℕ) (e : Entry) (choices met : List ℕ) (d : ℕ) (kind : Kind) → made_as e ≡ Some (d, kind) → slice_get choices d ≡ None → IsUndealt places rows i e choices met
undealt_choice places rows i e choices met d kind made none = record {
  each = λ past es wide long tracks has left. (let found = worker_of places choices past e d kind tracks has made in none-some found.0 (sym none ∙ found.2));
}

pub undealt_place : (places : List (ℕ × ℕ)) (rows : List (List Receipt)) (i : ℕ) (e : Entry) (choices met : List ℕ) (d w : ℕ) (kind : Kind) → made_as e ≡ Some (d, kind) → slice_get choices d ≡ Some w → slice_get places w ≡ None → IsUndealt places rows i e choices met
undealt_place places rows i e choices met d w kind made choice none = record { each = λ past es wide long tracks has left. by past tracks has }
  where
    by : (past : List Entry) → Tracks places choices past → HasWorker places past e → ⊥
    by past tracks has =
        let found = worker_of places choices past e d kind tracks has made in
        let same : found.0 ≡ w = same_Some found.0 w (sym found.2 ∙ choice) in
        none-some found.1 (sym none ∙ ap (slice_get places) (sym same) ∙ found.3)

pub undealt_unmet : (places : List (ℕ × ℕ)) (rows : List (List Receipt)) (i : ℕ) (e : Entry) (choices met : List ℕ) (d w : ℕ) (kind : Kind) (q : ℕ × ℕ) → made_as e ≡ Some (d, kind) → slice_get choices d ≡ Some w → slice_get places w ≡ Some q → IsUnmet rows w i kind met → IsUndealt places rows i e choices met
undealt_unmet places rows i e choices met d w kind q made choice there unmet = record { each = λ past es wide long tracks has left. by past es wide long tracks has left }
  where
    by : (past es : List Entry) → length rows ≡ length places → length met ≡ length places → Tracks places choices past → HasWorker places past e → AreLeft places rows met i past (e ∷ es) → ⊥
    by past es wide long tracks has left =
        let lt : w < length places = slice_get_within places w q there in
        let row = some_at rows w (omega (arith, wide, lt)) in
        let count = some_at met w (omega (arith, long, lt)) in
        let marks = next_mark places rows met choices i w count.0 q row.0 past es e d kind (place_is places choices past e d w kind q tracks has made choice there) made there row.1 count.1 left in
        let more : length (drop count.0 row.0) ≡ suc (length (marks_on q (i + 1) (e ∷ past) es)) = sym (marks_long (drop count.0 row.0)) ∙ ap length marks in
        last row.0 count.0 past es row.1 count.1 marks (drop count.0 row.0) refl more
      where
        last : (row : List Receipt) (n : ℕ) (past es : List Entry) → slice_get rows w ≡ Some row → slice_get met w ≡ Some n → marks_of (drop n row) ≡ (i, kind) ∷ marks_on q (i + 1) (e ∷ past) es → (rest : List Receipt) → drop n row ≡ rest → length rest ≡ suc (length (marks_on q (i + 1) (e ∷ past) es)) → ⊥
        last row n past es a b marks [] is long = absurd (omega arith)
        last row n past es a b marks (r ∷ rest) is long =
            let same : (r.index, r.kind) ∷ marks_of rest ≡ (i, kind) ∷ marks_on q (i + 1) (e ∷ past) es = sym (ap marks_of is) ∙ marks in
            let first : (r.index, r.kind) ≡ (i, kind) = ap (first_or (i, kind)) same in
            unmet.each row n r a b (drop_first row n r rest is) (ap (λ (x : ℕ × Kind). x.0) first) (ap (λ (x : ℕ × Kind). x.1) first)

pub undealt_nobodys : (places : List (ℕ × ℕ)) (rows : List (List Receipt)) (i : ℕ) (e : Entry) (choices met : List ℕ) → IsNobodys places e → IsUndealt places rows i e choices met
undealt_nobodys places rows i e choices met none = record {
  each = λ past es wide long tracks has left. (let found = has.leased.each none.drv none.machine none.slot none.is in none.nobody.each found.0 found.1);
}

pub dealt_on_other : (places : List (ℕ × ℕ)) (rows : List (List Receipt)) (i : ℕ) (e : Entry) (choices after met : List ℕ) → made_as e ≡ None → TracksOn places choices after e → IsDealtOn places rows i e choices after met met
dealt_on_other places rows i e choices after met none tracks = record {
  long = refl;
  tracks = tracks;
  left = λ past es apart known has left. record {
    each = λ k n p row a b c. left.each k n p row a b c ∙ ap (λ o. rest_with o p past es) none;
  };
}
  where
    rest_with : Option (ℕ × Kind) → ℕ × ℕ → List Entry → List Entry → List (ℕ × Kind)
    rest_with o p past es = cons_option (mark_by p i past o) (marks_on p (i + 1) (e ∷ past) es)

pub dealt_on_made : (places : List (ℕ × ℕ)) (rows : List (List Receipt)) (i : ℕ) (e : Entry) (choices after met now : List ℕ) (d w : ℕ) (kind : Kind) (q : ℕ × ℕ) → made_as e ≡ Some (d, kind) → slice_get choices d ≡ Some w → slice_get places w ≡ Some q → IsMet rows w i kind met now → TracksOn places choices after e → IsDealtOn places rows i e choices after met now
dealt_on_made places rows i e choices after met now d w kind q made choice there is tracks = record {
  long = ap length is.after ∙ length-set met w (is.count + 1);
  tracks = tracks;
  left = λ past es apart known has left. record {
    each = λ k n p row a b c. by past es apart (place_is places choices past e d w kind q known has made choice there) left k n p row a b c (cases_eq k w);
  };
}
  where
    by : (past es : List Entry) → AreApart places → place_of d past ≡ Some q → AreLeft places rows met i past (e ∷ es) → (k n : ℕ) (p : ℕ × ℕ) (row : List Receipt) → slice_get places k ≡ Some p → slice_get rows k ≡ Some row → slice_get now k ≡ Some n → (k ≡ w) ⊎ (k ≡ w → ⊥) → marks_of (drop n row) ≡ marks_on p (i + 1) (e ∷ past) es
    by past es apart place left k n p row a b c (inl same) =
        let A : ℕ → Type 0 = λ x. slice_get places x ≡ Some p in
        let B : ℕ → Type 0 = λ x. slice_get rows x ≡ Some row in
        let C : ℕ → Type 0 = λ x. slice_get now x ≡ Some n in
        let own : q ≡ p = same_Some q p (sym there ∙ subst A same a) in
        let rows_same : row ≡ is.row = same_Some row is.row (sym (subst B same b) ∙ is.row_is) in
        let met_now : slice_get now w ≡ Some (is.count + 1) = ap (λ xs. slice_get xs w) is.after ∙ get_set_within met w (is.count + 1) is.count is.count_is in
        let counts_same : n ≡ is.count + 1 = same_Some n (is.count + 1) (sym (subst C same c) ∙ met_now) in
        let marks = next_mark places rows met choices i w is.count q is.row past es e d kind place made there is.row_is is.count_is left in
        let rest : marks_of (drop (is.count + 1) is.row) ≡ marks_on q (i + 1) (e ∷ past) es = ap rest_of (sym (ap marks_of (drop_at is.row is.count is.receipt is.next)) ∙ marks) in
        ap (λ xs. marks_of (drop n xs)) rows_same ∙ ap (λ (x : ℕ). marks_of (drop x is.row)) counts_same ∙ rest ∙ ap (λ (x : ℕ × ℕ). marks_on x (i + 1) (e ∷ past) es) own
    by past es apart place left k n p row a b c (inr other) =
        let Q : ℕ × ℕ → Type 0 = λ x. slice_get places w ≡ Some x in
        let apart_from : q ≡ p → ⊥ = λ same. other (apart.each k w p a (subst Q same there)) in
        let still : slice_get met k ≡ Some n = sym (ap (λ xs. slice_get xs k) is.after ∙ get_set_other met w k (is.count + 1) other) ∙ c in
        left.each k n p row a b still ∙ marks_more p i past es e d kind (Some q) false made place (place_other p q apart_from)

-- ---- all entries

-- what is known once k entries were gone over, where the receipts are those of the entries
pub record HasWalkedOn (places : List (ℕ × ℕ)) (rows : List (List Receipt)) (opening drvs : ℕ) (old new : List Entry) (k : ℕ) (choices met : List ℕ) : Type 0 where
  pub long : length met ≡ length places
  pub sized : length choices ≡ drvs
  pub tracks : AreWithin drvs old → AreWithin drvs new → Tracks places choices (reverse (take k new) ++ reverse old)
  pub left : AreWithin drvs old → AreWithin drvs new → AreReceipted places opening (reverse old) new rows → AreLeft places rows met (opening + k) (reverse (take k new) ++ reverse old) (drop k new)
  pub has : AreReceipted places opening (reverse old) new rows → HaveWorkers places (reverse (take k new) ++ reverse old) (drop k new)

length_replicate : (n a : ℕ) → length (replicate n a) ≡ n
length_replicate zero a = refl
length_replicate (suc n) a = ap suc (length_replicate n a)

pub walk_on_first : (places : List (ℕ × ℕ)) (rows : List (List Receipt)) (opening drvs : ℕ) (old new : List Entry) (choices met : List ℕ) → met ≡ replicate (length places) 0 → length choices ≡ drvs → (AreWithin drvs old → Tracks places choices (reverse old)) → HasWalkedOn places rows opening drvs old new 0 choices met
walk_on_first places rows opening drvs old new choices met zeros sized tracks = record {
  long = ap length zeros ∙ length_replicate (length places) 0;
  sized = sized;
  tracks = λ before within. tracks before;
  left = λ before within h. record { each = λ k n p row a b c. begun h k n p row a b c };
  has = λ h. h.all;
}
  where
    past : List Entry
    past = reverse old

    begun : AreReceipted places opening past new rows → (k n : ℕ) (p : ℕ × ℕ) (row : List Receipt) → slice_get places k ≡ Some p → slice_get rows k ≡ Some row → slice_get met k ≡ Some n → marks_of (drop n row) ≡ marks_on p (opening + 0) past new
    begun h k n p row a b c =
        let none : n ≡ 0 = replicate_at (length places) 0 n k (ap (λ xs. slice_get xs k) (sym zeros) ∙ c) in
        let same_start : opening ≡ opening + 0 = omega arith in
        ap (λ (x : ℕ). marks_of (drop x row)) none ∙ zip_at (λ p row. marks_of row ≡ marks_on p opening past new) places rows k p row h.each a b ∙ ap (λ (i : ℕ). marks_on p i past new) same_start

-- the entry at place k
entry_there : (new : List Entry) (k : ℕ) (e : Entry) → k < length new → e ≡ get_or new k e → slice_get new k ≡ Some e
entry_there new k e lt at = slice_get-get_or new k e lt ∙ ap (λ (x : Entry). Some x) (sym at)

pub walk_on_more : (places : List (ℕ × ℕ)) (rows : List (List Receipt)) (opening drvs index : ℕ) (old new : List Entry) (k : ℕ) (e : Entry) (choices after met now : List ℕ) → AreApart places → HasWalkedOn places rows opening drvs old new k choices met → k < length new → e ≡ get_or new k e → index ≡ opening + k → IsDealtOn places rows index e choices after met now → HasWalkedOn places rows opening drvs old new (k + 1) after now
walk_on_more places rows opening drvs index old new k e choices after met now apart walked lt at is dealt =
    let past : List Entry = reverse (take k new) ++ reverse old in
    let rest : List Entry = drop (k + 1) new in
    let turned : reverse (take (k + 1) new) ++ reverse old ≡ e ∷ past = ap (λ xs. xs ++ reverse old) (turned_more new k e lt at) in
    let cut : drop k new ≡ e ∷ rest = drop_more new k e lt ∙ ap (λ x. x ∷ rest) (sym at) in
    let next : index + 1 ≡ opening + (k + 1) = omega arith in
    let T : List Entry → Type 0 = λ xs. Tracks places after xs in
    let L : List Entry → Type 0 = λ xs. AreLeft places rows now (opening + (k + 1)) xs rest in
    let M : ℕ → Type 0 = λ i. AreLeft places rows now i (e ∷ past) rest in
    let N : ℕ → Type 0 = λ i. AreLeft places rows met i past (e ∷ rest) in
    let O : List Entry → Type 0 = λ xs. AreLeft places rows met (opening + k) past xs in
    let H : List Entry → Type 0 = λ xs. HaveWorkers places xs rest in
    let J : List Entry → Type 0 = λ xs. HaveWorkers places past xs in
    let C : ℕ → Type 0 = λ n. (d m s : ℕ) → e ≡ Chosen d m s → d < n in
    let there = entry_there new k e lt at in
    record {
      long = dealt.long ∙ walked.long;
      sized = dealt.tracks.long ∙ walked.sized;
      tracks = λ before within. subst T (sym turned) (dealt.tracks.each past apart (subst C (sym walked.sized) (λ d m s chosen. within.each k d m s (there ∙ ap (λ (x : Entry). Some x) chosen))) (walked.tracks before within));
      left = λ before within h. subst L (sym turned) (subst M next (dealt.left past rest apart (walked.tracks before within) (subst J cut (walked.has h)).0 (subst N (sym is) (subst O cut (walked.left before within h)))));
      has = λ h. subst H (sym turned) (subst J cut (walked.has h)).1;
    }

pub walk_stops : (places : List (ℕ × ℕ)) (rows : List (List Receipt)) (opening drvs index : ℕ) (old new : List Entry) (k : ℕ) (e : Entry) (choices met : List ℕ) → length rows ≡ length places → HasWalkedOn places rows opening drvs old new k choices met → k < length new → e ≡ get_or new k e → index ≡ opening + k → IsUndealt places rows index e choices met
    → AreWithin drvs old → AreWithin drvs new → AreReceipted places opening (reverse old) new rows → ⊥
walk_stops places rows opening drvs index old new k e choices met wide walked lt at is undealt before within h =
    let past : List Entry = reverse (take k new) ++ reverse old in
    let rest : List Entry = drop (k + 1) new in
    let cut : drop k new ≡ e ∷ rest = drop_more new k e lt ∙ ap (λ x. x ∷ rest) (sym at) in
    let N : ℕ → Type 0 = λ i. AreLeft places rows met i past (e ∷ rest) in
    let O : List Entry → Type 0 = λ xs. AreLeft places rows met (opening + k) past xs in
    let J : List Entry → Type 0 = λ xs. HaveWorkers places past xs in
    undealt.each past rest wide walked.long (walked.tracks before within) (subst J cut (walked.has h)).0 (subst N (sym is) (subst O cut (walked.left before within h)))

pub walk_ends : (places : List (ℕ × ℕ)) (rows : List (List Receipt)) (opening drvs : ℕ) (old new : List Entry) (k : ℕ) (choices met : List ℕ) → length rows ≡ length places → HasWalkedOn places rows opening drvs old new k choices met → length new ≤ k → AreUnmet rows met → AreWithin drvs old → AreWithin drvs new → AreReceipted places opening (reverse old) new rows → ⊥
walk_ends places rows opening drvs old new k choices met wide walked le unmet before within h =
    let over : drop k new ≡ [] = drop_all k new le in
    let past : List Entry = reverse (take k new) ++ reverse old in
    let L : List Entry → Type 0 = λ xs. AreLeft places rows met (opening + k) past xs in
    let left = subst L over (walked.left before within h) in
    unmet.each (walked.long ∙ sym wide) (record { each = λ j n row b c. all past left j n row b c })
  where
    all : (past : List Entry) → AreLeft places rows met (opening + k) past [] → (j n : ℕ) (row : List Receipt) → slice_get rows j ≡ Some row → slice_get met j ≡ Some n → length row ≤ n
    all past left j n row b c =
        let lt : j < length rows = slice_get_within rows j row b in
        let p = some_at places j (omega (arith, wide, lt)) in
        drop_long n row (none_long (drop n row) (sym (marks_long (drop n row)) ∙ ap length (left.each j n p.0 row p.1 b c)))

-- there is a row for each place
pub as_many : (places : List (ℕ × ℕ)) (rows : List (List Receipt)) (opening : ℕ) (past new : List Entry) → AreReceipted places opening past new rows → length rows ≡ length places
as_many places rows opening past new h = by places rows h.each
  where
    by : (ps : List (ℕ × ℕ)) (qs : List (List Receipt)) → AllZip (λ p row. marks_of row ≡ marks_on p opening past new) ps qs → length qs ≡ length ps
    by [] [] all = refl
    by [] (q ∷ qs) all = absurd all
    by (p ∷ ps) [] all = absurd all
    by (p ∷ ps) (q ∷ qs) all = ap suc (by ps qs all.1)

-- ---- a receipt that was not met

pub unmet_at : {V : Type 0} (f : V → List Receipt) (rows : List V) (met : List ℕ) (worker count : ℕ) (v : V) → slice_get rows worker ≡ Some v → slice_get met worker ≡ Some count → count < length (f v) → AreUnmet (map f rows) met
unmet_at f rows met worker count v row at lt = record {
  each = λ long all. (let le = all.each worker count (f v) (slice_get-map f rows worker ∙ ap (option_map f) row) at in absurd (omega arith));
}

pub unmet_unknown : {V : Type 0} (f : V → List Receipt) (rows : List V) (met : List ℕ) (worker : ℕ) → worker < length rows → slice_get met worker ≡ None → AreUnmet (map f rows) met
unmet_unknown f rows met worker lt none = record {
  each = λ long all. (let wide = length-map rows f in let count = some_at met worker (omega (arith, long, wide, lt)) in none-some count.0 (sym none ∙ count.1));
}

pub ruleset stops = (no_place_first, no_place_more, no_place_last, on_place, nobodys, tracks_on_chosen, tracks_on_nobodys, none_no_builder, none_started, none_down, none_built, none_failed, none_stop, none_drain, none_enable, on_no_place, tracks_on_none)

pub ruleset dealings = (undealt_choice, undealt_place, undealt_unmet, undealt_nobodys, dealt_on_other, dealt_on_made)

pub ruleset walks_on = (walk_on_first, walk_on_more, walk_stops, walk_ends, as_many)
