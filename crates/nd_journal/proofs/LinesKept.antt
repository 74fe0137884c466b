-- A text of lines that is cut somewhere: its whole lines, and what stands behind them.
use Rattle.std.proofs.Common.{◌≡◌, ◌∙◌, ◌⊎◌, ◌==◌, ◌||◌, ℕ, ◌+◌, ◌<◌, ◌≤◌, Bool, true, false, List, [], ◌∷◌, ◌++◌, refl, sym, ap, subst, append_assoc, inl, inr, eqb-true, true≢false, length, take, drop, arith}
use Rattle.std.specs.Prelude.{slice_index}
use Rattle.std.proofs.lemmas.List.{take_more}
use Rattle.std.proofs.lemmas.List.{take_all, length-take-le}
use Rattle.std.specs.List.{All, flat_map}
use Rattle.std.proofs.lemmas.List.Elements.{All-head, All-tail}
use Rattle.nd_bytes.specs.Cut.{until}
use Rattle.nd_history.specs.declared.entry.Entry.{Entry}
use Rattle.nd_history_text.specs.HistoryTexts.{line_of}
use Rattle.nd_history_text.specs.Sound.{IsSound}
use Rattle.nd_history_text.proofs.Plain.{line_front, line_behind, parted}
use Rattle.nd_history_text.proofs.Once.{line_once, same_head, same_tail}
use Rattle.nd_journal.specs.BegunLines.{IsBegunLine}
use Rattle.nd_journal.specs.WholeLines.{has_newline, whole_lines, unfinished, AreWholeTo, IsBeginning}
use Rattle.nd_journal.proofs.LineStarts.{bare, cut_begun, begun_none}

or_false : (a b : Bool) → a ≡ false → b ≡ false → (a || b) ≡ false
or_false a b e f = rw (e, f) refl

or_right : (a b : Bool) → b ≡ true → (a || b) ≡ true
or_right true b e = refl
or_right false b e = e

left_false : (a b : Bool) → (a || b) ≡ false → a ≡ false
left_false true b e = absurd (true≢false e)
left_false false b e = refl

right_false : (a b : Bool) → (a || b) ≡ false → b ≡ false
right_false true b e = absurd (true≢false e)
right_false false b e = e

-- ---- newlines

newline_within : (before after : List ℕ) → has_newline (before ++ 10 ∷ after) ≡ true
newline_within [] after = refl
newline_within (b ∷ before) after = or_right (b == 10) (has_newline (before ++ 10 ∷ after)) (newline_within before after)

-- what stands before the first newline has none
none_until : (bytes : List ℕ) → has_newline (until (λ b. b == 10) bytes) ≡ false
none_until [] = refl
none_until (b ∷ bytes) = by (b == 10) refl (none_until bytes)
  where
    by : (t : Bool) → (b == 10) ≡ t → has_newline (until (λ b. b == 10) bytes) ≡ false → has_newline (until (λ b. b == 10) (b ∷ bytes)) ≡ false
    by true e later = rw e refl
    by false e later = rw e (or_false (b == 10) (has_newline (until (λ b. b == 10) bytes)) e later)

pub whole_none : (text : List ℕ) → has_newline text ≡ false → whole_lines text ≡ []
whole_none [] h = refl
whole_none (b ∷ text) h = rw h refl

-- whole lines stay whole
pub whole_through : (before after : List ℕ) → whole_lines (before ++ 10 ∷ after) ≡ before ++ 10 ∷ whole_lines after
whole_through [] after = refl
whole_through (b ∷ before) after = rw (newline_within (b ∷ before) after) (ap (λ (l : List ℕ). b ∷ l) (whole_through before after))

-- the whole lines, and then what isn't finished, are all
pub whole_part : (text : List ℕ) → whole_lines text ++ unfinished text ≡ text
whole_part [] = refl
whole_part (b ∷ text) = by (has_newline (b ∷ text)) refl (whole_part text)
  where
    by : (t : Bool) → has_newline (b ∷ text) ≡ t → whole_lines text ++ unfinished text ≡ text → whole_lines (b ∷ text) ++ unfinished (b ∷ text) ≡ b ∷ text
    by true e later =
        let whole : whole_lines (b ∷ text) ≡ b ∷ whole_lines text = rw e refl in
        ap (λ (l : List ℕ). l ++ drop (length l) (b ∷ text)) whole ∙ ap (λ (l : List ℕ). b ∷ l) later
    by false e later = ap (λ (l : List ℕ). l ++ drop (length l) (b ∷ text)) (whole_none (b ∷ text) e)

-- what stands behind no whole line
pub all_unfinished : (text : List ℕ) → whole_lines text ≡ [] → unfinished text ≡ text
all_unfinished text none = ap (λ (l : List ℕ). drop (length l) text) none

-- .. and behind some
drop_through : (before whole after : List ℕ) → drop (length (before ++ 10 ∷ whole)) (before ++ 10 ∷ after) ≡ drop (length whole) after
drop_through [] whole after = refl
drop_through (b ∷ before) whole after = drop_through before whole after

pub unfinished_through : (before after : List ℕ) → unfinished (before ++ 10 ∷ after) ≡ unfinished after
unfinished_through before after =
    ap (λ (l : List ℕ). drop (length l) (before ++ 10 ∷ after)) (whole_through before after) ∙ drop_through before (whole_lines after) after

-- ---- a line, and what is cut of it

-- how a text that begins a line and its rest is cut: before the newline, or behind it
pub record IsCutWithin (line file : List ℕ) : Type 0 where
  pub silent : has_newline file ≡ false
  pub begins : IsBeginning file line

pub record IsCutBehind (line file rest after : List ℕ) : Type 0 where
  pub more : List ℕ
  pub file_is : file ≡ line ++ 10 ∷ more
  pub left : more ++ rest ≡ after

pub cut_at : (line file rest after : List ℕ) → has_newline line ≡ false → file ++ rest ≡ line ++ 10 ∷ after → IsCutWithin line file ⊎ IsCutBehind line file rest after
cut_at line [] rest after none same = inl (record { silent = refl; begins = record { rest = line; is = refl } })
cut_at [] (b ∷ file) rest after none same =
    inr (record { more = file; file_is = ap (λ (x : ℕ). x ∷ file) (same_head same); left = same_tail same })
cut_at (x ∷ line) (b ∷ file) rest after none same =
    let here : b ≡ x = same_head same in
    let no_more = right_false (x == 10) (has_newline line) none in
    elim (cut_at line file rest after no_more (same_tail same)) [
      | inl within ↦ inl (record {
        silent = or_false (b == 10) (has_newline file) (ap (λ (y : ℕ). y == 10) here ∙ left_false (x == 10) (has_newline line) none) within.silent;
        begins = record { rest = within.begins.rest; is = (λ j. sym here j ∷ within.begins.is j) };
      })
      | inr found ↦ inr (record {
        more = found.more;
        file_is = (λ j. here j ∷ found.file_is j);
        left = found.left;
      })
    ]

-- ---- the lines of entries

pub line_parts : (e : Entry) (rest : List ℕ) → IsSound e → line_of e ++ rest ≡ bare e ++ 10 ∷ rest
line_parts e rest sound =
    parted (line_of e ++ rest) rest (line_behind e rest sound) ∙ ap (λ (l : List ℕ). l ++ 10 ∷ rest) (line_front e rest sound)

bare_silent : (e : Entry) → IsSound e → has_newline (bare e) ≡ false
bare_silent e sound = sym (ap has_newline (line_front e [] sound)) ∙ none_until (line_of e ++ [])

-- the whole lines of a beginning of these lines, and what it has of one more
pub record IsLinesCut (entries : List Entry) (file : List ℕ) : Type 0 where
  pub front : List Entry
  pub behind : List Entry
  pub parts : entries ≡ front ++ behind
  pub whole : whole_lines file ≡ flat_map line_of front
  pub last : IsBegunLine (unfinished file)

pub lines_cut : (entries : List Entry) (file rest : List ℕ) → All IsSound entries → file ++ rest ≡ flat_map line_of entries → IsLinesCut entries file
lines_cut entries [] rest sound same = record { front = []; behind = entries; parts = refl; whole = refl; last = begun_none }
lines_cut [] (b ∷ file) rest sound same = cc
lines_cut (e ∷ entries) (b ∷ file) rest sound same =
    let here = All-head IsSound e entries sound in
    elim (cut_at (bare e) (b ∷ file) rest (flat_map line_of entries) (bare_silent e here) (same ∙ line_parts e (flat_map line_of entries) here)) [
      | inl within ↦
          let none = whole_none (b ∷ file) within.silent in
          record {
            front = [];
            behind = e ∷ entries;
            parts = refl;
            whole = none;
            last = subst IsBegunLine (sym (all_unfinished (b ∷ file) none)) (cut_begun e (b ∷ file) within.begins.rest here within.begins.is);
          }
      | inr found ↦
          let later = lines_cut entries found.more rest (All-tail IsSound e entries sound) found.left in
          record {
            front = e ∷ later.front;
            behind = later.behind;
            parts = ap (λ (l : List Entry). e ∷ l) later.parts;
            whole =
                ap whole_lines found.file_is ∙ whole_through (bare e) found.more ∙ ap (λ (l : List ℕ). bare e ++ 10 ∷ l) later.whole
                ∙ sym (line_parts e (flat_map line_of later.front) here);
            last = subst IsBegunLine (sym (ap unfinished found.file_is ∙ unfinished_through (bare e) found.more)) later.last;
          }
    ]

-- whole lines before a text
pub lines_through : (entries : List Entry) (more : List ℕ) → All IsSound entries → whole_lines (flat_map line_of entries ++ more) ≡ flat_map line_of entries ++ whole_lines more
lines_through [] more sound = refl
lines_through (e ∷ entries) more sound =
    let here = All-head IsSound e entries sound in
    let lines = flat_map line_of entries in
    ap whole_lines (append_assoc (line_of e) lines more ∙ line_parts e (lines ++ more) here)
    ∙ whole_through (bare e) (lines ++ more)
    ∙ ap (λ (l : List ℕ). bare e ++ 10 ∷ l) (lines_through entries more (All-tail IsSound e entries sound))
    ∙ sym (line_parts e (lines ++ whole_lines more) here)
    ∙ sym (append_assoc (line_of e) lines (whole_lines more))

-- .. leave what isn't finished as it is
pub unfinished_on : (entries : List Entry) (more : List ℕ) → All IsSound entries → unfinished (flat_map line_of entries ++ more) ≡ unfinished more
unfinished_on [] more sound = refl
unfinished_on (e ∷ entries) more sound =
    let lines = flat_map line_of entries in
    ap unfinished (append_assoc (line_of e) lines more ∙ line_parts e (lines ++ more) (All-head IsSound e entries sound))
    ∙ unfinished_through (bare e) (lines ++ more)
    ∙ unfinished_on entries more (All-tail IsSound e entries sound)

-- lines that begin others
pub record GoOn (before entries : List Entry) (rest : List ℕ) : Type 0 where
  pub more : List Entry
  pub parts : entries ≡ before ++ more
  pub left : rest ≡ flat_map line_of more

no_line : (e : Entry) (rest more : List ℕ) → IsSound e → line_of e ++ rest ≡ [] → ⊥
no_line e rest more sound none = empty_apart (bare e) rest (sym (line_parts e rest sound) ∙ none)
  where
    empty_apart : (l after : List ℕ) → l ++ 10 ∷ after ≡ [] → ⊥
    empty_apart [] after h = cc
    empty_apart (b ∷ l) after h = cc

pub lines_go_on : (before entries : List Entry) (rest : List ℕ) → All IsSound before → All IsSound entries → flat_map line_of before ++ rest ≡ flat_map line_of entries → GoOn before entries rest
lines_go_on [] entries rest sound all same = record { more = entries; parts = refl; left = same }
lines_go_on (e ∷ before) [] rest sound all same =
    absurd (no_line e (flat_map line_of before ++ rest) [] (All-head IsSound e before sound) (sym (append_assoc (line_of e) (flat_map line_of before) rest) ∙ same))
lines_go_on (e ∷ before) (f ∷ entries) rest sound all same =
    let both = line_once e f (flat_map line_of before ++ rest) (flat_map line_of entries) (All-head IsSound e before sound) (All-head IsSound f entries all)
    (sym (append_assoc (line_of e) (flat_map line_of before) rest) ∙ same) in
    let later = lines_go_on before entries rest (All-tail IsSound e before sound) (All-tail IsSound f entries all) both.1 in
    record { more = later.more; parts = (λ j. sym both.0 j ∷ later.parts j); left = later.left }

-- ---- a text that is gone through

newlines_append : (one other : List ℕ) → has_newline (one ++ other) ≡ (has_newline one || has_newline other)
newlines_append [] other = refl
newlines_append (b ∷ one) other = by (b == 10) refl (newlines_append one other)
  where
    by : (t : Bool) → (b == 10) ≡ t → has_newline (one ++ other) ≡ (has_newline one || has_newline other)
        → has_newline ((b ∷ one) ++ other) ≡ (has_newline (b ∷ one) || has_newline other)
    by true e later = rw e refl
    by false e later = rw e later

-- one more byte that is no newline
one_silent : (text : List ℕ) (b : ℕ) → (b == 10) ≡ false → whole_lines (text ++ b ∷ []) ≡ whole_lines text
one_silent [] b e = rw e refl
one_silent (x ∷ text) b e =
    let same : has_newline ((x ∷ text) ++ b ∷ []) ≡ has_newline (x ∷ text) =
    newlines_append (x ∷ text) (b ∷ []) ∙ ap (λ (t : Bool). has_newline (x ∷ text) || (t || false)) e ∙ or_false_right (has_newline (x ∷ text)) in
    rw (same, one_silent text b e) refl
  where
    or_false_right : (t : Bool) → (t || false) ≡ t
    or_false_right true = refl
    or_false_right false = refl

pub none_yet : (text : List ℕ) → AreWholeTo text 0 0
none_yet text = record { whole = refl; within = omega arith }

pub newline_met : (text : List ℕ) (n k : ℕ) → n < length text → slice_index text n ≡ 10 → AreWholeTo text n k → AreWholeTo text (n + 1) (n + 1)
newline_met text n k within is so_far =
    let more : take (n + 1) text ≡ take n text ++ 10 ∷ [] = take_more text n 0 within ∙ ap (λ (x : ℕ). take n text ++ x ∷ []) is in
    record { whole = ap whole_lines more ∙ whole_through (take n text) [] ∙ sym more; within = omega arith }

not_ten : (b : ℕ) → (b ≡ 10 → ⊥) → (b == 10) ≡ false
not_ten b other = by (b == 10) refl
  where
    by : (t : Bool) → (b == 10) ≡ t → (b == 10) ≡ false
    by true e = absurd (other (eqb-true b 10 e))
    by false e = e

pub byte_passed : (text : List ℕ) (n k : ℕ) → n < length text → (slice_index text n ≡ 10 → ⊥) → AreWholeTo text n k → AreWholeTo text (n + 1) k
byte_passed text n k within other so_far =
    let b = slice_index text n in
    let more : take (n + 1) text ≡ take n text ++ b ∷ [] = take_more text n 0 within in
    record {
      whole = ap whole_lines more ∙ one_silent (take n text) b (not_ten b other) ∙ so_far.whole;
      within = (let le = so_far.within in omega arith);
    }

pub all_gone : (text : List ℕ) (n k : ℕ) → length text ≤ n → AreWholeTo text n k → take k text ≡ whole_lines text
all_gone text n k past so_far = sym so_far.whole ∙ ap whole_lines (take_all n text past)

-- .. and what stands behind them is what isn't finished
pub rest_gone : (text : List ℕ) (n k : ℕ) → length text ≤ n → n ≤ length text → AreWholeTo text n k → drop k text ≡ unfinished text
rest_gone text n k past within so_far =
    let all : k ≤ length text = (let le = so_far.within in omega arith) in
    let size : k ≡ length (whole_lines text) = sym (length-take-le k text all) ∙ ap length (all_gone text n k past so_far) in
    ap (λ (i : ℕ). drop i text) size

pub ruleset cuttings = (none_yet, newline_met, byte_passed, all_gone, rest_gone)
