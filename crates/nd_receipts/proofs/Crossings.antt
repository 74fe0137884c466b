-- Lemmas on going through the entries of a run.
use Rattle.std.proofs.Common.{◌≡◌, ◌≢◌, ◌⊎◌, ℕ, zero, suc, ◌+◌, ◌<◌, ◌≤◌, Bool, true, false, ◌==◌, ◌&&◌, if◌then◌else◌, List, [], ◌∷◌, ◌++◌, map, reverse, length, take, drop, get_or, set, replicate, slice_get, Option, Some, None, option_map, refl, sym, ap, ◌∙◌, subst, arith, inl, inr}
use Rattle.std.proofs.lemmas.Bool.{cases_eq, ne_eqb, eq-eqb, eqb-true}
use Rattle.std.proofs.lemmas.List.{drop_all, drop_more, length-map, take_all, take_more}
use Rattle.std.proofs.lemmas.Option.{none-some, same_Some, slice_get_past, slice_get_within, slice_get-map, slice_get-get_or}
use Rattle.std.specs.List.{AllZip, cons_option}
use Rattle.nd_history.proofs.Following.{newest_first}
use Rattle.nd_history.specs.declared.entry.Entry.{Entry}
use Rattle.nd_history.specs.declared.entry.Entry.TheVariants.{Chosen, NoBuilder, Started, Down, Built, Failed, Stop, Drain, Enable}
use Rattle.nd_history.specs.declared.entry.Why.{Why}
use Rattle.nd_receipts.specs.declared.receipt.Receipt.{Receipt}
use Rattle.nd_receipts.specs.declared.receipt.Kind.{Kind}
use Rattle.nd_receipts.specs.Dealt.{place_of, made_as, is_place, mark_by, marks_on, marks_of, AreApart, IsOnPlace, HaveWorkers, AreReceipted}
use Rattle.nd_receipts.specs.Walks.{Knows, Follows, AreUnknown, IsMet, AreAllMet, AreMetBelow, AreLeft, IsDealt, AreWithin, Tracks, TracksOn}

-- ---- lists

pub get_set_same : {A : Type 0} (xs : List A) (i : ℕ) (a b : A) → slice_get (set xs i a) i ≡ Some b → b ≡ a
get_set_same [] i a b h = absurd (none-some b (sym (slice_get_past [] i (omega arith)) ∙ h))
get_set_same (x ∷ xs) zero a b h = sym (same_Some a b h)
get_set_same (x ∷ xs) (suc i) a b h = get_set_same xs i a b h

pub get_set_within : {A : Type 0} (xs : List A) (i : ℕ) (a b : A) → slice_get xs i ≡ Some b → slice_get (set xs i a) i ≡ Some a
get_set_within [] i a b h = absurd (none-some b (sym (slice_get_past [] i (omega arith)) ∙ h))
get_set_within (x ∷ xs) zero a b h = refl
get_set_within (x ∷ xs) (suc i) a b h = get_set_within xs i a b h

pub get_set_other : {A : Type 0} (xs : List A) (i k : ℕ) (a : A) → (k ≡ i → ⊥) → slice_get (set xs i a) k ≡ slice_get xs k
get_set_other [] i k a other = refl
get_set_other (x ∷ xs) zero zero a other = absurd (other refl)
get_set_other (x ∷ xs) zero (suc k) a other = refl
get_set_other (x ∷ xs) (suc i) zero a other = refl
get_set_other (x ∷ xs) (suc i) (suc k) a other = get_set_other xs i k a (λ is. other (ap suc is))

pub replicate_at : {A : Type 0} (n : ℕ) (a b : A) (k : ℕ) → slice_get (replicate n a) k ≡ Some b → b ≡ a
replicate_at zero a b k h = absurd (none-some b (sym (slice_get_past [] k (omega arith)) ∙ h))
replicate_at (suc n) a b zero h = sym (same_Some a b h)
replicate_at (suc n) a b (suc k) h = replicate_at n a b k h

replicate_within : {A : Type 0} (n : ℕ) (a : A) (k : ℕ) → k < n → slice_get (replicate n a) k ≡ Some a
replicate_within zero a k lt = absurd (omega arith)
replicate_within (suc n) a zero lt = refl
replicate_within (suc n) a (suc k) lt = replicate_within n a k (omega arith)

drop_suc : {A : Type 0} (xs : List A) (k : ℕ) (a : A) → slice_get xs k ≡ Some a → drop k xs ≡ a ∷ drop (suc k) xs
drop_suc [] k a h = absurd (none-some a (sym (slice_get_past [] k (omega arith)) ∙ h))
drop_suc (x ∷ xs) zero a h = ap (λ y. y ∷ xs) (same_Some x a h)
drop_suc (x ∷ xs) (suc k) a h = drop_suc xs k a h

pub drop_at : {A : Type 0} (xs : List A) (k : ℕ) (a : A) → slice_get xs k ≡ Some a → drop k xs ≡ a ∷ drop (k + 1) xs
drop_at xs k a h = let next : suc k ≡ k + 1 = omega arith in drop_suc xs k a h ∙ ap (λ (n : ℕ). a ∷ drop n xs) next

zip_by : {A B : Type 0} (R : A → B → Type 0) (xs : List A) (ys : List B) → length ys ≡ length xs → ((k : ℕ) (x : A) (y : B) → slice_get xs k ≡ Some x → slice_get ys k ≡ Some y → R x y) → AllZip R xs ys
zip_by R [] [] same h = tt
zip_by R [] (y ∷ ys) same h = absurd (omega arith)
zip_by R (x ∷ xs) [] same h = absurd (omega arith)
zip_by R (x ∷ xs) (y ∷ ys) same h = (h 0 x y refl refl, zip_by R xs ys (omega arith) (λ k. h (suc k)))

-- ---- the place of a lease

knows_chosen : (places : List (ℕ × ℕ)) (choices : List ℕ) (past : List Entry) (d m s w : ℕ) → Knows places choices past → slice_get places w ≡ Some (m, s) → Knows places (set choices d w) (Chosen d m s ∷ past)
knows_chosen places choices past d m s w knows there = record { each = λ e v p h at. by e v p h at }
  where
    by : (e v : ℕ) (p : ℕ × ℕ) → slice_get (set choices d w) e ≡ Some v → slice_get places v ≡ Some p → (if e == d then Some (m, s) else place_of e past) ≡ Some p
    by e v p h at = elim (cases_eq e d) [
      | inl same ↦
          let Q : ℕ → Type 0 = λ n. slice_get (set choices d w) n ≡ Some v in
          let found : v ≡ w = get_set_same choices d w v (subst Q same h) in
          ap (λ (b : Bool). if b then Some (m, s) else place_of e past) (eq-eqb e d same) ∙ sym there ∙ sym (ap (slice_get places) found) ∙ at
      | inr other ↦
          ap (λ (b : Bool). if b then Some (m, s) else place_of e past) (ne_eqb e d other) ∙ knows.each e v p (sym (get_set_other choices d e w other) ∙ h) at
    ]

-- a lease on the place of none
knows_nobodys : (places : List (ℕ × ℕ)) (choices : List ℕ) (past : List Entry) (d m s : ℕ) → Knows places choices past → Knows places (set choices d (length places)) (Chosen d m s ∷ past)
knows_nobodys places choices past d m s knows = record { each = λ e v p h at. by e v p h at }
  where
    by : (e v : ℕ) (p : ℕ × ℕ) → slice_get (set choices d (length places)) e ≡ Some v → slice_get places v ≡ Some p → (if e == d then Some (m, s) else place_of e past) ≡ Some p
    by e v p h at = elim (cases_eq e d) [
      | inl same ↦
          let Q : ℕ → Type 0 = λ n. slice_get (set choices d (length places)) n ≡ Some v in
          let found : v ≡ length places = get_set_same choices d (length places) v (subst Q same h) in
          let lt : v < length places = slice_get_within places v p at in
          absurd (omega (arith, found, lt))
      | inr other ↦
          ap (λ (b : Bool). if b then Some (m, s) else place_of e past) (ne_eqb e d other) ∙ knows.each e v p (sym (get_set_other choices d e (length places) other) ∙ h) at
    ]

pub follows_chosen : (places : List (ℕ × ℕ)) (choices after : List ℕ) (d m s w : ℕ) → slice_get places w ≡ Some (m, s) → after ≡ set choices d w → Follows places choices after (Chosen d m s)
follows_chosen places choices after d m s w there is =
    let P : List ℕ → Type 0 = λ xs. Follows places choices xs (Chosen d m s) in
    subst P (sym is) (record { each = λ past knows. knows_chosen places choices past d m s w knows there })

pub follows_nobodys : (places : List (ℕ × ℕ)) (choices after : List ℕ) (d m s : ℕ) → after ≡ set choices d (length places) → Follows places choices after (Chosen d m s)
follows_nobodys places choices after d m s is =
    let P : List ℕ → Type 0 = λ xs. Follows places choices xs (Chosen d m s) in
    subst P (sym is) (record { each = λ past knows. knows_nobodys places choices past d m s knows })

pub follows_no_builder : (places : List (ℕ × ℕ)) (choices : List ℕ) (d : ℕ) → Follows places choices choices (NoBuilder d)
follows_no_builder places choices d = record { each = λ past knows. record { each = knows.each } }

pub follows_started : (places : List (ℕ × ℕ)) (choices : List ℕ) (d : ℕ) (paths : List (List ℕ)) → Follows places choices choices (Started d paths)
follows_started places choices d paths = record { each = λ past knows. record { each = knows.each } }

pub follows_down : (places : List (ℕ × ℕ)) (choices : List ℕ) (d : ℕ) → Follows places choices choices (Down d)
follows_down places choices d = record { each = λ past knows. record { each = knows.each } }

pub follows_built : (places : List (ℕ × ℕ)) (choices : List ℕ) (d : ℕ) (refs : List (List (List ℕ))) → Follows places choices choices (Built d refs)
follows_built places choices d refs = record { each = λ past knows. record { each = knows.each } }

pub follows_failed : (places : List (ℕ × ℕ)) (choices : List ℕ) (d : ℕ) (why : Why) → Follows places choices choices (Failed d why)
follows_failed places choices d why = record { each = λ past knows. record { each = knows.each } }

pub follows_stop : (places : List (ℕ × ℕ)) (choices : List ℕ) → Follows places choices choices Stop
follows_stop places choices = record { each = λ past knows. record { each = knows.each } }

pub follows_drain : (places : List (ℕ × ℕ)) (choices : List ℕ) (m : ℕ) → Follows places choices choices (Drain m)
follows_drain places choices m = record { each = λ past knows. record { each = knows.each } }

pub follows_enable : (places : List (ℕ × ℕ)) (choices : List ℕ) (m : ℕ) → Follows places choices choices (Enable m)
follows_enable places choices m = record { each = λ past knows. record { each = knows.each } }

pub unknown : (workers drvs : ℕ) (choices : List ℕ) → choices ≡ replicate drvs workers → AreUnknown workers choices
unknown workers drvs choices are = record { drvs = drvs; are = are }

-- ---- marks

both_yes : (a b : Bool) → a ≡ true → b ≡ true → (a && b) ≡ true
both_yes true b h k = k
both_yes false b h k = h

pub place_self : (p : ℕ × ℕ) → is_place p (Some p) ≡ true
place_self p = both_yes (p.0 == p.0) (p.1 == p.1) (eq-eqb p.0 p.0 refl) (eq-eqb p.1 p.1 refl)

and_first : (a b : Bool) → (a && b) ≡ true → a ≡ true
and_first true b h = refl
and_first false b h = h

and_second : (a b : Bool) → (a && b) ≡ true → b ≡ true
and_second true b h = h
and_second false b h = absurd (cc)

pub place_same : (p q : ℕ × ℕ) → is_place p (Some q) ≡ true → q ≡ p
place_same p q h =
    let a : p.0 ≡ q.0 = eqb-true p.0 q.0 (and_first (p.0 == q.0) (p.1 == q.1) h) in
    let b : p.1 ≡ q.1 = eqb-true p.1 q.1 (and_second (p.0 == q.0) (p.1 == q.1) h) in
    λ i. (sym a i, sym b i)

pub place_other : (p q : ℕ × ℕ) → (q ≡ p → ⊥) → is_place p (Some q) ≡ false
place_other p q other = by (is_place p (Some q)) refl
  where
    by : (b : Bool) → is_place p (Some q) ≡ b → is_place p (Some q) ≡ false
    by true h = absurd (other (place_same p q h))
    by false h = h

left_other : (places : List (ℕ × ℕ)) (rows : List (List Receipt)) (met : List ℕ) (i : ℕ) (past es : List Entry) (e : Entry) → made_as e ≡ None → AreLeft places rows met (i + 1) (e ∷ past) es → AreLeft places rows met i past (e ∷ es)
left_other places rows met i past es e none h = record {
  each = λ k n p row a b c. h.each k n p row a b c ∙ sym (ap (λ o. cons_option (mark_by p i past o) (marks_on p (i + 1) (e ∷ past) es)) none);
}

pub marks_more : (p : ℕ × ℕ) (i : ℕ) (past es : List Entry) (e : Entry) (d : ℕ) (kind : Kind) (o : Option (ℕ × ℕ)) (b : Bool) → made_as e ≡ Some (d, kind) → place_of d past ≡ o → is_place p o ≡ b → marks_on p i past (e ∷ es) ≡ cons_option (if b then Some (i, kind) else None) (marks_on p (i + 1) (e ∷ past) es)
marks_more p i past es e d kind o b made place is =
    let rest : List (ℕ × Kind) = marks_on p (i + 1) (e ∷ past) es in
    ap (λ x. cons_option (mark_by p i past x) rest) made
    ∙ ap (λ x. cons_option (if is_place p x then Some (i, kind) else None) rest) place
    ∙ ap (λ (x : Bool). cons_option (if x then Some (i, kind) else None) rest) is

left_made : (places : List (ℕ × ℕ)) (rows : List (List Receipt)) (met now choices : List ℕ) (i w : ℕ) (q : ℕ × ℕ) (past es : List Entry) (e : Entry) (d : ℕ) (kind : Kind) → AreApart places → Knows places choices past → made_as e ≡ Some (d, kind) → slice_get choices d ≡ Some w → slice_get places w ≡ Some q → IsMet rows w i kind met now → AreLeft places rows now (i + 1) (e ∷ past) es → AreLeft places rows met i past (e ∷ es)
left_made places rows met now choices i w q past es e d kind apart knows made choice there is h = record { each = λ k n p row a b c. by k n p row a b c }
  where
    place : place_of d past ≡ Some q
    place = knows.each d w q choice there

    here : (k n : ℕ) (p : ℕ × ℕ) (row : List Receipt) → slice_get places k ≡ Some p → slice_get rows k ≡ Some row → slice_get met k ≡ Some n → k ≡ w → marks_of (drop n row) ≡ marks_on p i past (e ∷ es)
    here k n p row a b c same =
        let A : ℕ → Type 0 = λ x. slice_get places x ≡ Some p in
        let B : ℕ → Type 0 = λ x. slice_get rows x ≡ Some row in
        let C : ℕ → Type 0 = λ x. slice_get met x ≡ Some n in
        let own : q ≡ p = same_Some q p (sym there ∙ subst A same a) in
        let rows_same : row ≡ is.row = same_Some row is.row (sym (subst B same b) ∙ is.row_is) in
        let counts_same : n ≡ is.count = same_Some n is.count (sym (subst C same c) ∙ is.count_is) in
        let met_now : slice_get now w ≡ Some (is.count + 1) = ap (λ xs. slice_get xs w) is.after ∙ get_set_within met w (is.count + 1) is.count is.count_is in
        let later : marks_of (drop (is.count + 1) is.row) ≡ marks_on p (i + 1) (e ∷ past) es = h.each w (is.count + 1) p is.row (subst A same a) is.row_is met_now in
        let Q : ℕ × ℕ → Type 0 = λ x. is_place p (Some x) ≡ true in
        let mine : is_place p (Some q) ≡ true = subst Q (sym own) (place_self p) in
        let mark : (is.receipt.index, is.receipt.kind) ≡ (i, kind) = λ j. (is.index_is j, is.kind_is j) in
        ap (λ xs. marks_of (drop n xs)) rows_same ∙ ap (λ (x : ℕ). marks_of (drop x is.row)) counts_same
        ∙ ap marks_of (drop_at is.row is.count is.receipt is.next)
        ∙ ap (λ x. x ∷ marks_of (drop (is.count + 1) is.row)) mark
        ∙ ap (λ xs. (i, kind) ∷ xs) later
        ∙ sym (marks_more p i past es e d kind (Some q) true made place mine)

    elsewhere : (k n : ℕ) (p : ℕ × ℕ) (row : List Receipt) → slice_get places k ≡ Some p → slice_get rows k ≡ Some row → slice_get met k ≡ Some n → (k ≡ w → ⊥) → marks_of (drop n row) ≡ marks_on p i past (e ∷ es)
    elsewhere k n p row a b c other =
        let A : ℕ × ℕ → Type 0 = λ x. slice_get places w ≡ Some x in
        let apart_from : q ≡ p → ⊥ = λ same. other (apart.each k w p a (subst A same there)) in
        let still : slice_get now k ≡ Some n = ap (λ xs. slice_get xs k) is.after ∙ get_set_other met w k (is.count + 1) other ∙ c in
        h.each k n p row a b still ∙ sym (marks_more p i past es e d kind (Some q) false made place (place_other p q apart_from))

    by : (k n : ℕ) (p : ℕ × ℕ) (row : List Receipt) → slice_get places k ≡ Some p → slice_get rows k ≡ Some row → slice_get met k ≡ Some n → marks_of (drop n row) ≡ marks_on p i past (e ∷ es)
    by k n p row a b c = elim (cases_eq k w) [
      | inl same ↦ here k n p row a b c same
      | inr other ↦ elsewhere k n p row a b c other
    ]

pub met_by : {V : Type 0} (f : V → List Receipt) (rows : List V) (worker index count : ℕ) (kind : Kind) (old new : List ℕ) (v : V) (r : Receipt) → slice_get rows worker ≡ Some v → slice_get old worker ≡ Some count → slice_get (f v) count ≡ Some r → r.index ≡ index → r.kind ≡ kind → new ≡ set old worker (count + 1) → IsMet (map f rows) worker index kind old new
met_by f rows worker index count kind old new v r row at next number sort after = record {
  row = f v;
  count = count;
  receipt = r;
  row_is = slice_get-map f rows worker ∙ ap (option_map f) row;
  count_is = at;
  next = next;
  index_is = number;
  kind_is = sort;
  after = after;
}

-- ---- one more entry

pub deals_other : (places : List (ℕ × ℕ)) (rows : List (List Receipt)) (i : ℕ) (e : Entry) (choices after met : List ℕ) → made_as e ≡ None → Follows places choices after e → IsOnPlace places e → IsDealt places rows i e choices after met met
deals_other places rows i e choices after met none follows placed = record {
  follows = follows;
  left = λ past es knows h. left_other places rows met i past es e none h;
  has = λ past knows. record { leased = placed; each = λ d kind made. absurd (none-some (d, kind) (sym none ∙ made)) };
}

pub deals_made : (places : List (ℕ × ℕ)) (rows : List (List Receipt)) (i : ℕ) (e : Entry) (choices after met now : List ℕ) (d w : ℕ) (kind : Kind) (q : ℕ × ℕ) → AreApart places → made_as e ≡ Some (d, kind) → slice_get choices d ≡ Some w → slice_get places w ≡ Some q → IsMet rows w i kind met now → Follows places choices after e → IsOnPlace places e → IsDealt places rows i e choices after met now
deals_made places rows i e choices after met now d w kind q apart made choice there is follows placed = record {
  follows = follows;
  left = λ past es knows h. left_made places rows met now choices i w q past es e d kind apart knows made choice there is h;
  has = λ past knows. record { leased = placed; each = λ f sort is. one past knows f sort is };
}
  where
    one : (past : List Entry) → Knows places choices past → (f : ℕ) (sort : Kind) → made_as e ≡ Some (f, sort) → (worker : ℕ) × (p : ℕ × ℕ) × (slice_get places worker ≡ Some p) × (place_of f past ≡ Some p)
    one past knows f sort is =
        let same : (f, sort) ≡ (d, kind) = same_Some (f, sort) (d, kind) (sym is ∙ made) in
        (w, q, there, ap (λ (x : ℕ × Kind). place_of x.0 past) same ∙ knows.each d w q choice there)

-- ---- all entries

-- the newest of the first k + 1 entries is the one at place k
pub turned_more : (es : List Entry) (k : ℕ) (e : Entry) → k < length es → e ≡ get_or es k e → reverse (take (k + 1) es) ≡ e ∷ reverse (take k es)
turned_more es k e lt at = newest_first (take k es) (take (k + 1) es) e (take_more es k e lt ∙ ap (λ x. take k es ++ x ∷ []) (sym at))

-- what is known of the table once k of the entries before the run were gone over
pub record HasSeeded (places : List (ℕ × ℕ)) (old : List Entry) (drvs k : ℕ) (choices : List ℕ) : Type 0 where
  pub knows : Knows places choices (reverse (take k old))
  pub sized : length choices ≡ drvs
  pub tracks : AreWithin drvs old → Tracks places choices (reverse (take k old))

pub seed_first : (places : List (ℕ × ℕ)) (old : List Entry) (choices : List ℕ) → AreUnknown (length places) choices → HasSeeded places old (length choices) 0 choices
seed_first places old choices unknown = record {
  knows = record { each = λ d w p h at. nowhere d w p h at };
  sized = refl;
  tracks = λ within. record { each = λ d w p leased at. absurd (none-some p leased) };
}
  where
    nowhere : (d w : ℕ) (p : ℕ × ℕ) → slice_get choices d ≡ Some w → slice_get places w ≡ Some p → None ≡ Some p
    nowhere d w p h at =
        let past_end : w ≡ length places = replicate_at unknown.drvs (length places) w d (ap (λ xs. slice_get xs d) (sym unknown.are) ∙ h) in
        let lt : w < length places = slice_get_within places w p at in
        absurd (omega (arith, past_end, lt))

pub seed_more : (places : List (ℕ × ℕ)) (old : List Entry) (drvs k : ℕ) (e : Entry) (choices after : List ℕ) → AreApart places → HasSeeded places old drvs k choices → k < length old → e ≡ get_or old k e → Follows places choices after e → TracksOn places choices after e → HasSeeded places old drvs (k + 1) after
seed_more places old drvs k e choices after apart seeded lt at follows tracks =
    let turned = turned_more old k e lt at in
    let K : List Entry → Type 0 = λ xs. Knows places after xs in
    let T : List Entry → Type 0 = λ xs. Tracks places after xs in
    let C : ℕ → Type 0 = λ n. (d m s : ℕ) → e ≡ Chosen d m s → d < n in
    let there = slice_get-get_or old k e lt ∙ ap (λ (x : Entry). Some x) (sym at) in
    record {
      knows = subst K (sym turned) (follows.each (reverse (take k old)) seeded.knows);
      sized = tracks.long ∙ seeded.sized;
      tracks = λ within. subst T (sym turned)
          (tracks.each (reverse (take k old)) apart (subst C (sym seeded.sized) (λ d m s chosen. within.each k d m s (there ∙ ap (λ (x : Entry). Some x) chosen))) (seeded.tracks within));
    }

pub seeded_known : (places : List (ℕ × ℕ)) (old : List Entry) (drvs k : ℕ) (choices : List ℕ) → HasSeeded places old drvs k choices → length old ≤ k → Knows places choices (reverse old)
seeded_known places old drvs k choices seeded le =
    let P : List Entry → Type 0 = λ xs. Knows places choices (reverse xs) in
    subst P (take_all k old le) seeded.knows

pub seeded_tracks : (places : List (ℕ × ℕ)) (old : List Entry) (drvs k : ℕ) (choices : List ℕ) → HasSeeded places old drvs k choices → length old ≤ k → AreWithin drvs old → Tracks places choices (reverse old)
seeded_tracks places old drvs k choices seeded le within =
    let P : List Entry → Type 0 = λ xs. Tracks places choices (reverse xs) in
    subst P (take_all k old le) (seeded.tracks within)

-- what is known once k entries were gone over
pub record HasWalked (places : List (ℕ × ℕ)) (rows : List (List Receipt)) (opening : ℕ) (past new : List Entry) (k : ℕ) (choices met : List ℕ) : Type 0 where
  pub knows : Knows places choices (reverse (take k new) ++ past)
  pub left : AreLeft places rows met (opening + k) (reverse (take k new) ++ past) (drop k new) → AllZip (λ p row. marks_of row ≡ marks_on p opening past new) places rows
  pub has : HaveWorkers places (reverse (take k new) ++ past) (drop k new) → HaveWorkers places past new

pub walk_first : {V : Type 0} (f : V → List Receipt) (vs : List V) (places : List (ℕ × ℕ)) (opening : ℕ) (past new : List Entry) (choices met : List ℕ) → Knows places choices past → met ≡ replicate (length places) 0 → length vs ≡ length places → HasWalked places (map f vs) opening past new 0 choices met
walk_first f vs places opening past new choices met knows zeros same = record {
  knows = knows;
  left = λ h. zip_by (λ p row. marks_of row ≡ marks_on p opening past new) places (map f vs) (length-map vs f ∙ same) (λ k p row a b. begun h k p row a b);
  has = λ h. h;
}
  where
    begun : AreLeft places (map f vs) met (opening + 0) past new → (k : ℕ) (p : ℕ × ℕ) (row : List Receipt) → slice_get places k ≡ Some p → slice_get (map f vs) k ≡ Some row → marks_of row ≡ marks_on p opening past new
    begun h k p row a b =
        let lt : k < length places = slice_get_within places k p a in
        let at : slice_get met k ≡ Some 0 = ap (λ xs. slice_get xs k) zeros ∙ replicate_within (length places) 0 k lt in
        let same_start : opening + 0 ≡ opening = omega arith in
        h.each k 0 p row a b at ∙ ap (λ (i : ℕ). marks_on p i past new) same_start

pub walk_more : (places : List (ℕ × ℕ)) (rows : List (List Receipt)) (opening index : ℕ) (old new : List Entry) (k : ℕ) (e : Entry) (choices after met now : List ℕ) → HasWalked places rows opening old new k choices met → k < length new → e ≡ get_or new k e → index ≡ opening + k → IsDealt places rows index e choices after met now → HasWalked places rows opening old new (k + 1) after now
walk_more places rows opening index old new k e choices after met now walked lt at is dealt =
    let past : List Entry = reverse (take k new) ++ old in
    let rest : List Entry = drop (k + 1) new in
    let turned : reverse (take (k + 1) new) ++ old ≡ e ∷ past = ap (λ xs. xs ++ old) (turned_more new k e lt at) in
    let cut : drop k new ≡ e ∷ rest = drop_more new k e lt ∙ ap (λ x. x ∷ rest) (sym at) in
    let next : index + 1 ≡ opening + (k + 1) = omega arith in
    let K : List Entry → Type 0 = λ xs. Knows places after xs in
    let L : List Entry → Type 0 = λ xs. AreLeft places rows now (opening + (k + 1)) xs rest in
    let M : ℕ → Type 0 = λ i. AreLeft places rows now i (e ∷ past) rest in
    let N : ℕ → Type 0 = λ i. AreLeft places rows met i past (e ∷ rest) in
    let O : List Entry → Type 0 = λ xs. AreLeft places rows met (opening + k) past xs in
    let H : List Entry → Type 0 = λ xs. HaveWorkers places xs rest in
    let J : List Entry → Type 0 = λ xs. HaveWorkers places past xs in
    record {
      knows = subst K (sym turned) (dealt.follows.each past walked.knows);
      left = λ h. walked.left (subst O (sym cut) (subst N is (dealt.left past rest walked.knows (subst M (sym next) (subst L turned h)))));
      has = λ h. walked.has (subst J (sym cut) (dealt.has past walked.knows, subst H turned h));
    }

pub walk_last : (places : List (ℕ × ℕ)) (rows : List (List Receipt)) (opening : ℕ) (past new : List Entry) (k : ℕ) (choices met : List ℕ) → HasWalked places rows opening past new k choices met → length new ≤ k → AreAllMet rows met → AreReceipted places opening past new rows
walk_last places rows opening past new k choices met walked le all =
    let over : drop k new ≡ [] = drop_all k new le in
    let L : List Entry → Type 0 = λ xs. AreLeft places rows met (opening + k) (reverse (take k new) ++ past) xs in
    let H : List Entry → Type 0 = λ xs. HaveWorkers places (reverse (take k new) ++ past) xs in
    record {
      each = walked.left (subst L (sym over) (record { each = λ j n p row a b c. ap marks_of (drop_all n row (all.each j n row b c)) }));
      all = walked.has (subst H (sym over) tt);
    }

-- ---- all receipts met

pub met_first : (rows : List (List Receipt)) (met : List ℕ) → AreMetBelow 0 rows met
met_first rows met = record { each = λ k n row lt b c. absurd (omega arith) }

met_more_row : (rows : List (List Receipt)) (met : List ℕ) (m count : ℕ) (row : List Receipt) → AreMetBelow m rows met → slice_get rows m ≡ Some row → slice_get met m ≡ Some count → length row ≤ count → AreMetBelow (m + 1) rows met
met_more_row rows met m count row below there at le = record { each = λ k n own lt b c. by k n own lt b c (cases_eq k m) }
  where
    by : (k n : ℕ) (own : List Receipt) → suc k ≤ m + 1 → slice_get rows k ≡ Some own → slice_get met k ≡ Some n → (k ≡ m) ⊎ (k ≡ m → ⊥) → length own ≤ n
    by k n own lt b c (inl same) =
        let B : ℕ → Type 0 = λ x. slice_get rows x ≡ Some own in
        let C : ℕ → Type 0 = λ x. slice_get met x ≡ Some n in
        let rows_same : own ≡ row = same_Some own row (sym (subst B same b) ∙ there) in
        let counts_same : n ≡ count = same_Some n count (sym (subst C same c) ∙ at) in
        let long : length own ≡ length row = ap length rows_same in
        omega arith
    by k n own lt b c (inr other) = below.each k n own (let ne : k ≢ m = other in omega arith) b c

pub met_more : {V : Type 0} (f : V → List Receipt) (rows : List V) (met : List ℕ) (m count : ℕ) (v : V) → AreMetBelow m (map f rows) met → slice_get rows m ≡ Some v → slice_get met m ≡ Some count → length (f v) ≤ count → AreMetBelow (m + 1) (map f rows) met
met_more f rows met m count v below there at le = met_more_row (map f rows) met m count (f v) below (slice_get-map f rows m ∙ ap (option_map f) there) at le

pub met_last : {V : Type 0} (f : V → List Receipt) (rows : List V) (met : List ℕ) (m : ℕ) → AreMetBelow m (map f rows) met → m ≡ length rows → AreAllMet (map f rows) met
met_last f rows met m below all = record {
  each = λ k n row b c. below.each k n row (let lt = slice_get_within (map f rows) k row b in let long = length-map rows f in omega arith) b c;
}

pub ruleset walks = (follows_chosen, follows_nobodys, follows_no_builder, follows_started, follows_down, follows_built, follows_failed, follows_stop, follows_drain, follows_enable, met_by, deals_other, deals_made, seed_first, seed_more, seeded_known, seeded_tracks, walk_first, walk_more, walk_last, met_first, met_more, met_last)
