-- Lemmas on what rows of receipts mean.
use Rattle.std.proofs.Common.{◌≡◌, ℕ, zero, suc, ◌+◌, ◌<◌, Bool, true, false, if◌then◌else◌, List, [], ◌∷◌, ◌++◌, reverse, take, slice_get, Option, Some, None, option_map, refl, sym, ap, ◌∙◌, subst, append_assoc, arith}
use Rattle.std.proofs.lemmas.List.{reverse-append}
use Rattle.std.proofs.lemmas.Option.{none-some, same_Some, slice_get_past, slice_get-map}
use Rattle.std.specs.List.{AllZip, cons_option}
use Rattle.nd_history.specs.declared.entry.Entry.{Entry}
use Rattle.nd_receipts.specs.declared.receipt.Receipt.{Receipt}
use Rattle.nd_receipts.specs.declared.receipt.Kind.{Kind}
use Rattle.nd_receipts.specs.Dealt.{place_of, made_as, is_place, mark_by, marks_on, marks_of, HasWorker, HaveWorkers, AreReceipted}
use Rattle.nd_receipts.specs.Meaning.{AreRising, Names, RowsRise, ReceiptsName, NumbersAreOnce, EntriesHaveReceipts}
use Rattle.nd_receipts.proofs.Crossings.{place_self, place_same}

-- ---- lists

nowhere : {A : Type 0} (k : ℕ) (a : A) → slice_get [] k ≡ Some a → ⊥
nowhere k a h = none-some a (sym (slice_get_past [] k (omega arith)) ∙ h)

zip_here : {A B : Type 0} (R : A → B → Type 0) (xs : List A) (ys : List B) (k : ℕ) (x : A) (y : B) → AllZip R xs ys → slice_get xs k ≡ Some x → slice_get ys k ≡ Some y → R x y
zip_here R [] ys k x y all a b = absurd (nowhere k x a)
zip_here R (v ∷ xs) [] k x y all a b = absurd (nowhere k y b)
zip_here R (v ∷ xs) (w ∷ ys) zero x y all a b = subst (R x) (same_Some w y b) (subst (λ u. R u w) (same_Some v x a) all.0)
zip_here R (v ∷ xs) (w ∷ ys) (suc k) x y all a b = zip_here R xs ys k x y all.1 a b

zip_left : {A B : Type 0} (R : A → B → Type 0) (xs : List A) (ys : List B) (k : ℕ) (y : B) → AllZip R xs ys → slice_get ys k ≡ Some y → (x : A) × (slice_get xs k ≡ Some x)
zip_left R xs [] k y all b = absurd (nowhere k y b)
zip_left R [] (w ∷ ys) k y all b = absurd all
zip_left R (v ∷ xs) (w ∷ ys) zero y all b = (v, refl)
zip_left R (v ∷ xs) (w ∷ ys) (suc k) y all b = zip_left R xs ys k y all.1 b

zip_right : {A B : Type 0} (R : A → B → Type 0) (xs : List A) (ys : List B) (k : ℕ) (x : A) → AllZip R xs ys → slice_get xs k ≡ Some x → (y : B) × (slice_get ys k ≡ Some y)
zip_right R [] ys k x all a = absurd (nowhere k x a)
zip_right R (v ∷ xs) [] k x all a = absurd all
zip_right R (v ∷ xs) (w ∷ ys) zero x all a = (w, refl)
zip_right R (v ∷ xs) (w ∷ ys) (suc k) x all a = zip_right R xs ys k x all.1 a

turned : (e : Entry) (xs past : List Entry) → reverse (e ∷ xs) ++ past ≡ reverse xs ++ e ∷ past
turned e xs past = ap (λ ys. ys ++ past) (reverse-append (e ∷ []) xs) ∙ append_assoc (reverse xs) (e ∷ []) past

-- ---- marks

-- a mark names an entry of its kind on place p
record Marks (p : ℕ × ℕ) (i : ℕ) (past es : List Entry) (m : ℕ × Kind) : Type 0 where
  before : ℕ
  entry : Entry
  drv : ℕ
  number : m.0 ≡ i + before
  there : slice_get es before ≡ Some entry
  made : made_as entry ≡ Some (drv, m.1)
  place : place_of drv (reverse (take before es) ++ past) ≡ Some p

from_place : (p : ℕ × ℕ) (o : Option (ℕ × ℕ)) → is_place p o ≡ true → o ≡ Some p
from_place p None h = absurd (cc)
from_place p (Some q) h = ap Some (place_same p q h)

mark_here : (p : ℕ × ℕ) (i : ℕ) (past es : List Entry) (e : Entry) (f : ℕ × Kind) → made_as e ≡ Some f → is_place p (place_of f.0 past) ≡ true → Marks p i past (e ∷ es) (i, f.1)
mark_here p i past es e f made is = record {
  before = 0;
  entry = e;
  drv = f.0;
  number = omega arith;
  there = refl;
  made = made;
  place = from_place p (place_of f.0 past) is;
}

mark_later : (p : ℕ × ℕ) (i : ℕ) (past es : List Entry) (e : Entry) (m : ℕ × Kind) → Marks p (i + 1) (e ∷ past) es m → Marks p i past (e ∷ es) m
mark_later p i past es e m h = record {
  before = suc h.before;
  entry = h.entry;
  drv = h.drv;
  number = let n = h.number in omega arith;
  there = h.there;
  made = h.made;
  place = ap (place_of h.drv) (turned e (take h.before es) past) ∙ h.place;
}

marks_name : (p : ℕ × ℕ) (es : List Entry) (i : ℕ) (past : List Entry) (k : ℕ) (m : ℕ × Kind) → slice_get (marks_on p i past es) k ≡ Some m → Marks p i past es m
marks_name p [] i past k m h = absurd (nowhere k m h)
marks_name p (e ∷ es) i past k m h = by (made_as e) refl (λ n g. mark_later p i past es e m (marks_name p es (i + 1) (e ∷ past) n m g)) k h
  where
    rest : List (ℕ × Kind)
    rest = marks_on p (i + 1) (e ∷ past) es

    on : (f : ℕ × Kind) → made_as e ≡ Some f → (b : Bool) → is_place p (place_of f.0 past) ≡ b → ((n : ℕ) → slice_get rest n ≡ Some m → Marks p i past (e ∷ es) m) → (n : ℕ) → slice_get (cons_option (if b then Some (i, f.1) else None) rest) n ≡ Some m → Marks p i past (e ∷ es) m
    on f made true is next zero g = subst (Marks p i past (e ∷ es)) (same_Some (i, f.1) m g) (mark_here p i past es e f made is)
    on f made true is next (suc n) g = next n g
    on f made false is next n g = next n g

    by : (o : Option (ℕ × Kind)) → made_as e ≡ o → ((n : ℕ) → slice_get rest n ≡ Some m → Marks p i past (e ∷ es) m) → (n : ℕ) → slice_get (cons_option (mark_by p i past o) rest) n ≡ Some m → Marks p i past (e ∷ es) m
    by None made next n g = next n g
    by (Some f) made next n g = on f made (is_place p (place_of f.0 past)) refl next n g

own_number : (p : ℕ × ℕ) (i : ℕ) (past : List Entry) (o : Option (ℕ × Kind)) (m : ℕ × Kind) → mark_by p i past o ≡ Some m → m.0 ≡ i
own_number p i past None m is = absurd (none-some m is)
own_number p i past (Some f) m is = on (is_place p (place_of f.0 past)) is
  where
    on : (x : Bool) → (if x then Some (i, f.1) else None) ≡ Some m → m.0 ≡ i
    on true same = sym (ap (λ (y : ℕ × Kind). y.0) (same_Some (i, f.1) m same))
    on false same = absurd (none-some m same)

marks_rise : (p : ℕ × ℕ) (es : List Entry) (i : ℕ) (past : List Entry) (j k : ℕ) (a b : ℕ × Kind) → j < k → slice_get (marks_on p i past es) j ≡ Some a → slice_get (marks_on p i past es) k ≡ Some b → a.0 < b.0
marks_rise p [] i past j k a b lt g h = absurd (nowhere j a g)
marks_rise p (e ∷ es) i past j k a b lt g h = by (mark_by p i past (made_as e)) (own_number p i past (made_as e)) (λ m n less c d. marks_rise p es (i + 1) (e ∷ past) m n a b less c d) j k lt g h
  where
    rest : List (ℕ × Kind)
    rest = marks_on p (i + 1) (e ∷ past) es

    by : (o : Option (ℕ × Kind)) → ((m : ℕ × Kind) → o ≡ Some m → m.0 ≡ i) → ((m n : ℕ) → m < n → slice_get rest m ≡ Some a → slice_get rest n ≡ Some b → a.0 < b.0) → (j k : ℕ) → j < k → slice_get (cons_option o rest) j ≡ Some a → slice_get (cons_option o rest) k ≡ Some b → a.0 < b.0
    by None first later j k lt g h = later j k lt g h
    by (Some m) first later zero zero lt g h = absurd (omega arith)
    by (Some m) first later zero (suc k) lt g h =
        let one : a.0 ≡ i = first a (ap Some (same_Some m a g)) in
        let two = marks_name p es (i + 1) (e ∷ past) k b h in
        let number : b.0 ≡ i + 1 + two.before = two.number in
        omega arith
    by (Some m) first later (suc j) zero lt g h = absurd (omega arith)
    by (Some m) first later (suc j) (suc k) lt g h = later j k (omega arith) g h

-- an entry on place p has its mark
marked_at : (p : ℕ × ℕ) (es : List Entry) (i : ℕ) (past : List Entry) (n : ℕ) (e : Entry) (f : ℕ × Kind) → slice_get es n ≡ Some e → made_as e ≡ Some f → place_of f.0 (reverse (take n es) ++ past) ≡ Some p → (k : ℕ) × (slice_get (marks_on p i past es) k ≡ Some (i + n, f.1))
marked_at p [] i past n e f there made place = absurd (nowhere n e there)
marked_at p (x ∷ es) i past zero e f there made place =
    let is : x ≡ e = same_Some x e there in
    let own : mark_by p i past (made_as x) ≡ Some (i, f.1) =
    ap (λ y. mark_by p i past (made_as y)) is ∙ ap (mark_by p i past) made ∙ ap (λ (o : Option (ℕ × ℕ)). if is_place p o then Some (i, f.1) else None) place ∙ ap (λ (b : Bool). if b then Some (i, f.1) else None) (place_self p) in
    let number : i + 0 ≡ i = omega arith in
    (0, ap (λ o. slice_get (cons_option o (marks_on p (i + 1) (x ∷ past) es)) 0) own ∙ ap (λ (y : ℕ). Some (y, f.1)) (sym number))
marked_at p (x ∷ es) i past (suc n) e f there made place = by (mark_by p i past (made_as x)) (marked_at p es (i + 1) (x ∷ past) n e f there made (ap (place_of f.0) (sym (turned x (take n es) past)) ∙ place))
  where
    rest : List (ℕ × Kind)
    rest = marks_on p (i + 1) (x ∷ past) es

    number : i + 1 + n ≡ i + suc n
    number = omega arith

    by : (o : Option (ℕ × Kind)) → (k : ℕ) × (slice_get rest k ≡ Some (i + 1 + n, f.1)) → (k : ℕ) × (slice_get (cons_option o rest) k ≡ Some (i + suc n, f.1))
    by None later = (later.0, later.1 ∙ ap (λ (y : ℕ). Some (y, f.1)) number)
    by (Some m) later = (suc later.0, later.1 ∙ ap (λ (y : ℕ). Some (y, f.1)) number)

-- ---- rows

row_mark : (row : List Receipt) (k : ℕ) (r : Receipt) → slice_get row k ≡ Some r → slice_get (marks_of row) k ≡ Some (r.index, r.kind)
row_mark row k r h = slice_get-map (λ (x : Receipt). (x.index, x.kind)) row k ∙ ap (option_map (λ (x : Receipt). (x.index, x.kind))) h

row_marks : (places : List (ℕ × ℕ)) (opening : ℕ) (past new : List Entry) (rows : List (List Receipt)) (worker : ℕ) (p : ℕ × ℕ) (row : List Receipt) → AreReceipted places opening past new rows → slice_get places worker ≡ Some p → slice_get rows worker ≡ Some row → marks_of row ≡ marks_on p opening past new
row_marks places opening past new rows worker p row are a b = zip_here (λ q r. marks_of r ≡ marks_on q opening past new) places rows worker p row are.each a b

row_at : (places : List (ℕ × ℕ)) (opening : ℕ) (past new : List Entry) (rows : List (List Receipt)) (worker turn : ℕ) (p : ℕ × ℕ) (row : List Receipt) (r : Receipt) → AreReceipted places opening past new rows → slice_get places worker ≡ Some p → slice_get rows worker ≡ Some row → slice_get row turn ≡ Some r → slice_get (marks_on p opening past new) turn ≡ Some (r.index, r.kind)
row_at places opening past new rows worker turn p row r are a b c = ap (λ ms. slice_get ms turn) (sym (row_marks places opening past new rows worker p row are a b)) ∙ row_mark row turn r c

row_place : (places : List (ℕ × ℕ)) (opening : ℕ) (past new : List Entry) (rows : List (List Receipt)) (worker : ℕ) (row : List Receipt) → AreReceipted places opening past new rows → slice_get rows worker ≡ Some row → (p : ℕ × ℕ) × (slice_get places worker ≡ Some p)
row_place places opening past new rows worker row are b = zip_left (λ q r. marks_of r ≡ marks_on q opening past new) places rows worker row are.each b

pub rows_rise : RowsRise
rows_rise places opening past new rows worker row are b =
    let p = row_place places opening past new rows worker row are b in
    record {
      each = λ j k r q lt g h.
          marks_rise p.0 new opening past j k (r.index, r.kind) (q.index, q.kind) lt (row_at places opening past new rows worker j p.0 row r are p.1 b g) (row_at places opening past new rows worker k p.0 row q are p.1 b h);
    }

pub receipts_name : ReceiptsName
receipts_name places opening past new rows worker turn p row r are a b c =
    let m = marks_name p new opening past turn (r.index, r.kind) (row_at places opening past new rows worker turn p row r are a b c) in
    record {
      before = m.before;
      entry = m.entry;
      drv = m.drv;
      number = m.number;
      there = m.there;
      made = m.made;
      place = m.place;
    }

-- two receipts with one number name one entry
same_place : (p q : ℕ × ℕ) (opening : ℕ) (past new : List Entry) (r s : Receipt) → Names p opening past new r → Names q opening past new s → r.index ≡ s.index → p ≡ q
same_place p q opening past new r s a b same =
    let first = a.number in
    let second = b.number in
    let before : a.before ≡ b.before = omega arith in
    let entry : a.entry ≡ b.entry = same_Some a.entry b.entry (sym a.there ∙ ap (slice_get new) before ∙ b.there) in
    let made : (a.drv, r.kind) ≡ (b.drv, s.kind) = same_Some (a.drv, r.kind) (b.drv, s.kind) (sym a.made ∙ ap made_as entry ∙ b.made) in
    let drv : a.drv ≡ b.drv = ap (λ (x : ℕ × Kind). x.0) made in
    same_Some p q (sym a.place ∙ ap (λ d. place_of d (reverse (take a.before new) ++ past)) drv ∙ ap (λ (n : ℕ). place_of b.drv (reverse (take n new) ++ past)) before ∙ b.place)

once_in : (row : List Receipt) (m n : ℕ) (r q : Receipt) → AreRising row → slice_get row m ≡ Some r → slice_get row n ≡ Some q → r.index ≡ q.index → m ≡ n
once_in row m n r q rising g h same = sides m n less more
  where
    less : m < n → ⊥
    less lt = let x = rising.each m n r q lt g h in omega arith

    more : n < m → ⊥
    more lt = let x = rising.each n m q r lt h g in omega arith

    sides : (a b : ℕ) → (a < b → ⊥) → (b < a → ⊥) → a ≡ b
    sides zero zero f g = refl
    sides zero (suc b) f g = absurd (f (omega arith))
    sides (suc a) zero f g = absurd (g (omega arith))
    sides (suc a) (suc b) f g = ap suc (sides a b (λ lt. f (omega arith)) (λ lt. g (omega arith)))

pub numbers_are_once : NumbersAreOnce
numbers_are_once places opening past new rows j k m n row other r q apart are b d c e same =
    let p = row_place places opening past new rows j row are b in
    let s = row_place places opening past new rows k other are d in
    let one : p.0 ≡ s.0 = same_place p.0 s.0 opening past new r q (receipts_name places opening past new rows j m p.0 row r are p.1 b c) (receipts_name places opening past new rows k n s.0 other q are s.1 d e) same in
    let worker : j ≡ k = apart.each j k s.0 (p.1 ∙ ap Some one) s.1 in
    let rows_same : other ≡ row = same_Some other row (sym d ∙ ap (slice_get rows) (sym worker) ∙ b) in
    let there : slice_get row n ≡ Some q = ap (λ xs. slice_get xs n) (sym rows_same) ∙ e in
    (worker, once_in row m n r q (rows_rise places opening past new rows j row are b) c there same)

worker_at : (places : List (ℕ × ℕ)) (es : List Entry) (past : List Entry) (n : ℕ) (e : Entry) → HaveWorkers places past es → slice_get es n ≡ Some e → HasWorker places (reverse (take n es) ++ past) e
worker_at places [] past n e have there = absurd (nowhere n e there)
worker_at places (x ∷ es) past zero e have there = subst (HasWorker places past) (same_Some x e there) have.0
worker_at places (x ∷ es) past (suc n) e have there = subst (λ h. HasWorker places h e) (sym (turned x (take n es) past)) (worker_at places es (x ∷ past) n e have.1 there)

mark_row : (row : List Receipt) (k : ℕ) (m : ℕ × Kind) → slice_get (marks_of row) k ≡ Some m → (r : Receipt) × (slice_get row k ≡ Some r) × ((r.index, r.kind) ≡ m)
mark_row [] k m h = absurd (nowhere k m h)
mark_row (r ∷ row) zero m h = (r, refl, same_Some (r.index, r.kind) m h)
mark_row (r ∷ row) (suc k) m h = mark_row row k m h

pub entries_have_receipts : EntriesHaveReceipts
entries_have_receipts places opening past new rows n d e kind are there made =
    let w = (worker_at places new past n e are.all there).each d kind made in
    let row = zip_right (λ q r. marks_of r ≡ marks_on q opening past new) places rows w.0 w.1 are.each w.2 in
    let mark = marked_at w.1 new opening past n e (d, kind) there made w.3 in
    let found = mark_row row.0 mark.0 (opening + n, kind) (ap (λ ms. slice_get ms mark.0) (row_marks places opening past new rows w.0 w.1 row.0 are w.2 row.1) ∙ mark.1) in
    record {
      worker = w.0;
      turn = mark.0;
      row = row.0;
      receipt = found.0;
      row_is = row.1;
      there = found.1;
      index_is = ap (λ (x : ℕ × Kind). x.0) found.2;
      kind_is = ap (λ (x : ℕ × Kind). x.1) found.2;
    }
