-- Reading a history text line by line.
use Rattle.std.proofs.Common.{◌≡◌, ◌∙◌, ◌==◌, ℕ, ◌+◌, ◌<◌, ◌≤◌, true, false, true≢false, List, [], ◌∷◌, ◌++◌, length, refl, sym, ap, subst, arith, append_assoc, length-append, Some, None}
use Rattle.std.specs.List.{All, flat_map, slice_split}
use Rattle.std.proofs.lemmas.List.{append-nil}
use Rattle.std.proofs.lemmas.List.Elements.{All-nil, All-push, All-head}
use Rattle.std.proofs.lemmas.Grind.{flat_map-append}
use Rattle.nd_bytes.specs.Cut.{until, behind}
use Rattle.nd_history.specs.declared.entry.Entry.{Entry}
use Rattle.nd_history_text.specs.HistoryTexts.{line_of, first_line, history_text, is_told_in}
use Rattle.nd_history_text.specs.Lines.{word_of, kind_of}
use Rattle.nd_history_text.specs.Sound.{IsTold, IsHistoryText, HasNoVersion, IsFirstBad}
use Rattle.nd_history_text.specs.declared.history_error.LineError.{LineError}
use Rattle.nd_history_text.specs.declared.history_error.LineError.TheVariants.{Bad, Memory}
use Rattle.nd_history_text.specs.Reading.{Refuses, IsLineFirst, IsEntryWords, IsEntryOf}
use Rattle.nd_closure.proofs.Texts.{some_left}
use Rattle.nd_history_text.specs.declared.history_error.HistoryError.TheVariants.{Version as NoVersion, BadLine, Memory as NoMemory}
use Rattle.nd_history_text.specs.declared.kinds.Kind.{Kind}
use Rattle.nd_history_text.specs.declared.kinds.Version.{Version}
use Rattle.nd_history_text.specs.declared.kinds.Version.TheVariants.{First, Second}
use Rattle.nd_history_text.proofs.Plain.{line_front, line_behind, line_words, parted, line_from_words}
use Rattle.nd_history_text.proofs.Once.{kind_from_words, same_kind, told_alike, texts_go_on}
use Rattle.nd_history_text.proofs.Spelled.{words_in_parts}

-- ---- one line

pub line_read : (version : Version) (bytes line rest : List ℕ) (e : Entry) → line ≡ until (λ b. b == 10) bytes → Some rest ≡ behind (λ b. b == 10) bytes
    → IsEntryWords version (slice_split (λ b. b == 32) line) e → IsLineFirst version bytes e rest
line_read version bytes line rest e front more h = record {
  told = h.told;
  whole = parted bytes rest (sym more) ∙ ap (λ (l : List ℕ). l ++ 10 ∷ rest) (sym front) ∙ line_from_words e line rest h.whole;
}

pub line_refused : (version : Version) (bytes line : List ℕ) → line ≡ until (λ b. b == 10) bytes
    → ((e : Entry) → IsEntryWords version (slice_split (λ b. b == 32) line) e → ⊥) → (e : Entry) (rest : List ℕ) → IsLineFirst version bytes e rest → ⊥
line_refused version bytes line front none e rest h = none e (record {
  told = h.told;
  whole =
      ap (slice_split (λ b. b == 32)) (front ∙ ap (until (λ b. b == 10)) h.whole ∙ line_front e rest h.told.sound) ∙ line_words e h.told.sound;
})

pub line_unended : (version : Version) (bytes : List ℕ) → None ≡ behind (λ b. b == 10) bytes → (e : Entry) (rest : List ℕ) → IsLineFirst version bytes e rest → ⊥
line_unended version bytes none e rest h =
    let both : None ≡ Some rest = none ∙ ap (behind (λ b. b == 10)) h.whole ∙ line_behind e rest h.told.sound in cc

pub line_refused_by : (version : Version) (bytes line : List ℕ) (f : LineError) → line ≡ until (λ b. b == 10) bytes
    → Refuses f ((e : Entry) → IsEntryWords version (slice_split (λ b. b == 32) line) e → ⊥)
    → Refuses f ((e : Entry) (rest : List ℕ) → IsLineFirst version bytes e rest → ⊥)
line_refused_by version bytes line Bad front none = line_refused version bytes line front none
line_refused_by version bytes line Memory front none = tt

pub ruleset lines = (line_read, line_refused_by, line_unended)

-- ---- the words of one line

pub words_read : (version : Version) (words left : List (List ℕ)) (word : List ℕ) (kind : Kind) (e : Entry) → words ≡ word ∷ left → word ≡ word_of kind
    → IsEntryOf kind left e → is_told_in version e ≡ true → IsEntryWords version words e
words_read version words left word kind e cut first h told = record {
  told = record { sound = h.sound; told = told };
  whole = cut ∙ ap (λ (w : List ℕ). w ∷ left) (first ∙ ap word_of (sym h.of_kind)) ∙ ap (λ (ws : List (List ℕ)). word_of (kind_of e) ∷ ws) h.whole ∙ sym (words_in_parts e);
}

pub words_no_kind : (version : Version) (words left : List (List ℕ)) (word : List ℕ) → words ≡ word ∷ left → ((kind : Kind) → word ≡ word_of kind → ⊥)
    → (e : Entry) → IsEntryWords version words e → ⊥
words_no_kind version words left word cut none e h = none (kind_of e) (sym (kind_from_words e word left (sym h.whole ∙ cut)).0)

-- the kind of an entry with these words
kind_is : (version : Version) (words left : List (List ℕ)) (word : List ℕ) (kind : Kind) (e : Entry) → words ≡ word ∷ left → word ≡ word_of kind
    → IsEntryWords version words e → IsEntryOf kind left e
kind_is version words left word kind e cut first h =
    let parts = kind_from_words e word left (sym h.whole ∙ cut) in
    record { sound = h.told.sound; of_kind = same_kind (kind_of e) kind (parts.0 ∙ first); whole = sym parts.1 }

pub words_refused : (version : Version) (words left : List (List ℕ)) (word : List ℕ) (kind : Kind) → words ≡ word ∷ left → word ≡ word_of kind
    → ((e : Entry) → IsEntryOf kind left e → ⊥) → (e : Entry) → IsEntryWords version words e → ⊥
words_refused version words left word kind cut first none e h = none e (kind_is version words left word kind e cut first h)

pub words_untold : (version : Version) (words left : List (List ℕ)) (word : List ℕ) (kind : Kind) (found : Entry) → words ≡ word ∷ left → word ≡ word_of kind
    → IsEntryOf kind left found → is_told_in version found ≡ false → (e : Entry) → IsEntryWords version words e → ⊥
words_untold version words left word kind found cut first here untold e h =
    let is = kind_is version words left word kind e cut first h in
    true≢false (sym h.told.told ∙ told_alike version e found (is.of_kind ∙ sym here.of_kind) ∙ untold)

pub words_refused_by : (version : Version) (words left : List (List ℕ)) (word : List ℕ) (kind : Kind) (f : LineError) → words ≡ word ∷ left → word ≡ word_of kind
    → Refuses f ((e : Entry) → IsEntryOf kind left e → ⊥) → Refuses f ((e : Entry) → IsEntryWords version words e → ⊥)
words_refused_by version words left word kind Bad cut first none = words_refused version words left word kind cut first none
words_refused_by version words left word kind Memory cut first none = tt

pub ruleset words = (words_read, words_no_kind, words_refused_by, words_untold)

-- ---- whole texts

first_line_long : (version : Version) → length (first_line version) ≡ 23
unfolding first_line
first_line_long First = refl
first_line_long Second = refl

-- so many lines of a text have been read to these entries, and this is left; the next line has this number
pub record IsReading (text : List ℕ) (version : Version) (entries : List Entry) (left : List ℕ) (line : ℕ) : Type 0 where
  pub told : All (IsTold version) entries
  pub whole : text ≡ history_text version entries ++ left
  pub place : line ≡ length entries + 2
  pub fits : line + length left ≤ length text

pub text_begun : (text left : List ℕ) (version : Version) → text ≡ first_line version ++ left → IsReading text version [] left 2
text_begun text left version h = record {
  told = All-nil (IsTold version);
  whole = h ∙ ap (λ (l : List ℕ). l ++ left) (sym (append-nil (first_line version)));
  place = refl;
  fits = omega (arith, ap length h, length-append (first_line version) left, first_line_long version);
}

pub text_begun_at : (text left : List ℕ) (version : Version) (entries : List Entry) → entries ≡ [] → text ≡ first_line version ++ left
    → IsReading text version entries left 2
text_begun_at text left version entries none h = subst (λ (es : List Entry). IsReading text version es left 2) (sym none) (text_begun text left version h)

pub text_more : (text left rest : List ℕ) (version : Version) (entries : List Entry) (e : Entry) (line : ℕ) → IsReading text version entries left line
    → IsLineFirst version left e rest → length rest < length left → IsReading text version (entries ++ e ∷ []) rest (line + 1)
text_more text left rest version entries e line h next shorter = record {
  told = All-push (IsTold version) entries e h.told next.told;
  whole =
      h.whole ∙ ap (λ (l : List ℕ). history_text version entries ++ l) next.whole
      ∙ sym (append_assoc (history_text version entries) (line_of e) rest)
      ∙ ap (λ (l : List ℕ). l ++ rest)
      (append_assoc (first_line version) (flat_map line_of entries) (line_of e)
      ∙ ap (λ (l : List ℕ). first_line version ++ l)
      (ap (λ (l : List ℕ). flat_map line_of entries ++ l) (sym (append-nil (line_of e))) ∙ sym (flat_map-append line_of entries (e ∷ []))));
  place = omega (arith, h.place, length-append entries (e ∷ []));
  fits = omega (arith, h.fits);
}

pub text_read : (text left : List ℕ) (version : Version) (entries : List Entry) (line : ℕ) → IsReading text version entries left line → left ≡ []
    → IsHistoryText text entries
text_read text left version entries line h none = record {
  version = version;
  told = h.told;
  text = h.whole ∙ ap (λ (l : List ℕ). history_text version entries ++ l) none ∙ append-nil (history_text version entries);
}

pub text_bad : (text left : List ℕ) (version : Version) (entries : List Entry) (line : ℕ) → IsReading text version entries left line → 0 < length left
    → ((e : Entry) (rest : List ℕ) → IsLineFirst version left e rest → ⊥) → IsFirstBad text line
text_bad text left version entries line h some none = record {
  version = version;
  before = entries;
  rest = left;
  told = h.told;
  whole = h.whole;
  place = h.place;
  more = some;
  bad = λ e after told whole. none e after (record { told = told; whole = whole });
}

-- a text has one history
pub one_history : (text : List ℕ) (entries others : List Entry) → IsHistoryText text entries → IsHistoryText text others → entries ≡ others
one_history text entries others h k =
    let go = texts_go_on h.version k.version entries others [] h.told k.told (append-nil (history_text h.version entries) ∙ sym h.text ∙ k.text) in
    ends (go.1.more) go.1.all go.1.told go.1.left
  where
    ends : (more : List Entry) → others ≡ entries ++ more → All (IsTold h.version) more → [] ≡ flat_map line_of more → entries ≡ others
    ends [] all told none = sym (all ∙ append-nil entries)
    ends (e ∷ more) all told none =
        let both : None ≡ Some (flat_map line_of more) = ap (behind (λ b. b == 10)) none ∙ line_behind e (flat_map line_of more) (All-head (IsTold h.version) e more told).sound in cc

-- a text with a bad line has none
pub no_history : (text : List ℕ) (line : ℕ) (entries : List Entry) → IsFirstBad text line → IsHistoryText text entries → ⊥
no_history text line entries h k =
    let go = texts_go_on h.version k.version h.before entries h.rest h.told k.told (sym h.whole ∙ k.text) in
    ends (go.1.more) go.1.told go.1.left
  where
    ends : (more : List Entry) → All (IsTold h.version) more → h.rest ≡ flat_map line_of more → ⊥
    ends [] told left = let none : length h.rest ≡ 0 = ap length left in absurd (omega (arith, h.more, none))
    ends (e ∷ more) told left = h.bad e (flat_map line_of more) (All-head (IsTold h.version) e more told) left

pub no_version : (text : List ℕ) (entries : List Entry) → HasNoVersion text → IsHistoryText text entries → ⊥
no_version text entries h k = h k.version (flat_map line_of entries) k.text

-- so nothing but want of memory refuses a history's text
pub version_alone : (text : List ℕ) → HasNoVersion text → (entries : List Entry) → IsHistoryText text entries → NoVersion ≡ NoMemory
version_alone text h entries k = absurd (no_version text entries h k)

pub bad_alone : (text left : List ℕ) (version : Version) (before : List Entry) (line : ℕ) → IsReading text version before left line → false ≡ (length left == 0)
    → ((e : Entry) (rest : List ℕ) → IsLineFirst version left e rest → ⊥) → (entries : List Entry) → IsHistoryText text entries → BadLine line ≡ NoMemory
bad_alone text left version before line h some none entries k =
    absurd (no_history text line entries (text_bad text left version before line h (some_left left some) none) k)

pub first_bad : (text left : List ℕ) (version : Version) (before : List Entry) (line : ℕ) → IsReading text version before left line → false ≡ (length left == 0)
    → ((e : Entry) (rest : List ℕ) → IsLineFirst version left e rest → ⊥) → IsFirstBad text line
first_bad text left version before line h some none = text_bad text left version before line h (some_left left some) none

pub ruleset whole_texts = (text_begun, first_bad, version_alone, bad_alone)
