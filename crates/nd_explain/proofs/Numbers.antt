-- Lines and entries by their numbers.
use Rattle.std.proofs.Common.{◌≡◌, ◌==◌, ℕ, ◌+◌, ◌-◌, ◌<◌, zero, suc, Bool, true, false, List, [], ◌∷◌, ◌++◌, length, Option, Some, None, refl, sym, ap, ◌∙◌, subst, arith, true≢false, Bor}
use Rattle.std.proofs.Math.Dec.{eqb-suc-zero}
use Rattle.std.specs.Prelude.{filter, if◌then◌else◌}
use Rattle.std.specs.List.{slice_split, slice_get}
use Rattle.std.specs.Option.{unwrap_or, option_copied}
use Rattle.nd_bytes.specs.Cut.{pieces}
use Rattle.nd_bytes.specs.Lines.{lines_of}
use Rattle.nd_explain.specs.Pieces.{has_field, entries_in, entries_of}
use Rattle.nd_bytes.proofs.TextLines.{lines_more, no_lines}

-- what is left behind a line
pub rest_now : (rest : Option (Bor (List ℕ))) (none : Bor (List ℕ)) → (unwrap_or rest none).now ≡ unwrap_or (option_copied rest) none.now
rest_now None none = refl
rest_now (Some bytes) none = refl

-- tests on what is left
pub some_left : (bytes : List ℕ) → false ≡ (length bytes == 0) → 0 < length bytes
some_left [] h = absurd (true≢false (sym h))
some_left (b ∷ bytes) h = omega arith

pub none_left : (bytes : List ℕ) → true ≡ (length bytes == 0) → bytes ≡ []
none_left [] h = refl
none_left (b ∷ bytes) h = absurd (true≢false (h ∙ eqb-suc-zero (length bytes)))

-- where nothing is left there is no line
pub lines_end : (left : List ℕ) (n : ℕ) → left ≡ [] → slice_get (lines_of left) n ≡ None
lines_end left n none = ap (λ (ls : List (List ℕ)). slice_get ls n) (ap lines_of none ∙ no_lines)

-- the first line
pub lines_here : (left line : List ℕ) (rest : Option (List ℕ)) → 0 < length left → slice_split (λ b. b == 10) left ≡ line ∷ pieces 10 rest
    → slice_get (lines_of left) 0 ≡ Some line
lines_here left line rest some cut = ap (λ (ls : List (List ℕ)). slice_get ls 0) (lines_more left line rest some cut)

later : {A : Type 0} (x : A) (xs : List A) (n : ℕ) → 0 < n → slice_get (x ∷ xs) n ≡ slice_get xs (n - 1)
later x xs zero some = absurd (omega arith)
later x xs (suc n) some = let same : suc n - 1 ≡ n = omega arith in rw same refl

-- a later line
pub lines_next : (left line : List ℕ) (rest : Option (List ℕ)) (n : ℕ) → 0 < length left → slice_split (λ b. b == 10) left ≡ line ∷ pieces 10 rest
    → 0 < n → slice_get (lines_of left) n ≡ slice_get (lines_of (unwrap_or rest [])) (n - 1)
lines_next left line rest n some cut more =
    ap (λ (ls : List (List ℕ)). slice_get ls n) (lines_more left line rest some cut) ∙ later line (lines_of (unwrap_or rest [])) n more

-- ---- entries

-- of these items this is left, and of those that stand before the wanted one so many are in it
pub record IsPassing (all left : List (List ℕ)) (before others : ℕ) : Type 0 where
  pub item : slice_get left others ≡ slice_get all before
  pub counted : length left + before ≡ length all + others

pub passing_begun : (all : List (List ℕ)) (before : ℕ) → IsPassing all all before before
passing_begun all before = record { item = refl; counted = refl }

-- an item without a field is left out
pub passed_none : (all pieces more : List (List ℕ)) (entry : List ℕ) (before others : ℕ) → IsPassing all (filter has_field pieces) before others
    → pieces ≡ entry ∷ more → has_field entry ≡ false → IsPassing all (filter has_field more) before others
passed_none all pieces more entry before others h cut none =
    subst (λ (es : List (List ℕ)). IsPassing all es before others)
    (ap (filter has_field) cut ∙ ap (λ (b : Bool). if b then entry ∷ filter has_field more else filter has_field more) none) h

-- what is left begins with an item that has one
kept : (pieces more : List (List ℕ)) (entry : List ℕ) → pieces ≡ entry ∷ more → has_field entry ≡ true → filter has_field pieces ≡ entry ∷ filter has_field more
kept pieces more entry cut some =
    ap (filter has_field) cut ∙ ap (λ (b : Bool). if b then entry ∷ filter has_field more else filter has_field more) some

pub passed_one : (all pieces more : List (List ℕ)) (entry : List ℕ) (before others : ℕ) → IsPassing all (filter has_field pieces) before others
    → pieces ≡ entry ∷ more → has_field entry ≡ true → 0 < others → IsPassing all (filter has_field more) before (others - 1)
passed_one all pieces more entry before others h cut some further =
    let front = kept pieces more entry cut some in record {
      item = sym (later entry (filter has_field more) others further) ∙ ap (λ (es : List (List ℕ)). slice_get es others) (sym front) ∙ h.item;
      counted = omega (arith, h.counted, ap length front);
    }

pub found_one : (all pieces more : List (List ℕ)) (entry : List ℕ) (before others : ℕ) → IsPassing all (filter has_field pieces) before others
    → pieces ≡ entry ∷ more → has_field entry ≡ true → others ≡ 0 → slice_get all before ≡ Some entry
found_one all pieces more entry before others h cut some last =
    sym h.item ∙ ap (λ (n : ℕ). slice_get (filter has_field pieces) n) last ∙ ap (λ (es : List (List ℕ)). slice_get es 0) (kept pieces more entry cut some)

pub all_passed : (all : List (List ℕ)) (before others : ℕ) → IsPassing all [] before others → length all + others ≡ before
all_passed all before others h = omega (arith, h.counted)

-- an item of the first list, and one of the second
get_front : {A : Type 0} (xs ys : List A) (n : ℕ) (x : A) → slice_get xs n ≡ Some x → slice_get (xs ++ ys) n ≡ Some x
get_front [] ys n x h = cc
get_front (y ∷ xs) ys zero x h = h
get_front (y ∷ xs) ys (suc n) x h = get_front xs ys n x h

get_behind : {A : Type 0} (xs ys : List A) (n m : ℕ) → length xs + n ≡ m → slice_get (xs ++ ys) m ≡ slice_get ys n
get_behind [] ys n m h = let same : m ≡ n = omega (arith, h) in ap (slice_get ys) same
get_behind (x ∷ xs) ys n zero h = absurd (omega arith)
get_behind (x ∷ xs) ys n (suc m) h = get_behind xs ys n m (omega arith)

-- the entries of what is left are those of its first line, and then the others
entries_more : (left line : List ℕ) (rest : Option (List ℕ)) → 0 < length left → slice_split (λ b. b == 10) left ≡ line ∷ pieces 10 rest
    → entries_of (lines_of left) ≡ entries_in line ++ entries_of (lines_of (unwrap_or rest []))
unfolding entries_of
entries_more left line rest some cut = ap entries_of (lines_more left line rest some cut)

pub entries_here : (left line : List ℕ) (rest : Option (List ℕ)) (before : ℕ) (entry : List ℕ) → 0 < length left → slice_split (λ b. b == 10) left ≡ line ∷ pieces 10 rest
    → slice_get (entries_in line) before ≡ Some entry → slice_get (entries_of (lines_of left)) before ≡ Some entry
entries_here left line rest before entry some cut found =
    ap (λ (es : List (List ℕ)). slice_get es before) (entries_more left line rest some cut)
    ∙ get_front (entries_in line) (entries_of (lines_of (unwrap_or rest []))) before entry found

pub entries_next : (left line : List ℕ) (rest : Option (List ℕ)) (before others : ℕ) → 0 < length left → slice_split (λ b. b == 10) left ≡ line ∷ pieces 10 rest
    → length (entries_in line) + others ≡ before → slice_get (entries_of (lines_of left)) before ≡ slice_get (entries_of (lines_of (unwrap_or rest []))) others
entries_next left line rest before others some cut passed =
    ap (λ (es : List (List ℕ)). slice_get es before) (entries_more left line rest some cut)
    ∙ get_behind (entries_in line) (entries_of (lines_of (unwrap_or rest []))) others before passed

pub entries_end : (left : List ℕ) (n : ℕ) → left ≡ [] → slice_get (entries_of (lines_of left)) n ≡ None
unfolding entries_of
entries_end left n none = ap (λ (ls : List (List ℕ)). slice_get (entries_of ls) n) (ap lines_of none ∙ no_lines)
