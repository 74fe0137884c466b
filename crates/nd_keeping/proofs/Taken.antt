-- What a scribe has after it took entries, kept them, or was refused.
use Rattle.std.proofs.Common.{◌≡◌, ◌∙◌, ◌==◌, ◌&&◌, not, ℕ, zero, suc, ◌<◌, Bool, true, false, List, [], ◌∷◌, ◌++◌, length, refl, sym, ap, subst, arith, append-nil, append_assoc, eqb-true, true≢false, Option, Some, None}
use Rattle.std.specs.List.{All, flat_map}
use Rattle.std.proofs.lemmas.Grind.{flat_map-append}
use Rattle.std.proofs.lemmas.List.Elements.{All-append}
use Rattle.nd_history.specs.declared.entry.Entry.{Entry}
use Rattle.nd_history_text.specs.HistoryTexts.{line_of, first_line, history_text}
use Rattle.nd_history_text.specs.Sound.{IsSound}
use Rattle.nd_history_text.specs.declared.kinds.Version.TheVariants.{Second}
use Rattle.nd_journal.specs.WholeLines.{IsBeginning}
use Rattle.nd_keeping.specs.Stored.{Stored, HasPart, HoldsPart}
use Rattle.nd_keeping.specs.Listing.{Listed, with_more}
use Rattle.nd_keeping.specs.Scribing.{Scribing, IsScribing, HoldsDurably, HoldsLeft, HoldsMore, LeavesPart, journal_text, opening_of, lines_behind}
use Rattle.nd_keeping.proofs.Parts.{begins_longer}

some_there : (n : ℕ) → 0 < n → (n == 0) ≡ false
some_there n more = by (n == 0) refl
  where
    by : (t : Bool) → (n == 0) ≡ t → (n == 0) ≡ false
    by true e = let none : n ≡ 0 = eqb-true n 0 e in absurd (omega arith)
    by false e = e

pub not_empty : (n : ℕ) → (n == 0) ≡ false → 0 < n
not_empty zero h = absurd (true≢false h)
not_empty (suc n) h = omega arith

-- ---- the text that waits

-- the lines of further entries, which are the first that the journal gets where none wait and it has none
lines_more : (begun : Bool) (later : List Entry) (e : Entry) (added : List Entry)
    → lines_behind begun later ++ (opening_of (not begun && (length later == 0)) ++ flat_map line_of (e ∷ added)) ≡ lines_behind begun (later ++ e ∷ added)
lines_more true [] e added = refl
lines_more true (x ∷ later) e added = sym (flat_map-append line_of (x ∷ later) (e ∷ added))
lines_more false [] e added = refl
lines_more false (x ∷ later) e added =
    let some : 0 < length (x ∷ later) = omega arith in
    let lines = flat_map line_of (x ∷ later) in
    ap (λ (t : Bool). (first_line Second ++ lines) ++ (opening_of t ++ flat_map line_of (e ∷ added))) (some_there (length (x ∷ later)) some)
    ∙ append_assoc (first_line Second) lines (flat_map line_of (e ∷ added))
    ∙ ap (λ (l : List ℕ). first_line Second ++ l) (sym (flat_map-append line_of (x ∷ later) (e ∷ added)))

-- a journal with no first line was handed those that wait
same_first : (begun : Bool) (kept later handed : List Entry) → handed ≡ kept ++ later → (begun ≡ false → kept ≡ [])
    → (not begun && (length handed == 0)) ≡ (not begun && (length later == 0))
same_first true kept later handed whole unbegun = refl
same_first false kept later handed whole unbegun =
    ap (λ (es : List Entry). length es == 0) (whole ∙ ap (λ (es : List Entry). es ++ later) (unbegun refl))

-- the text that the journal has, and what waits, are the text of all
whole_text : (begun : Bool) (kept later : List Entry) → 0 < length later → (begun ≡ false → kept ≡ [])
    → journal_text begun kept ++ lines_behind begun later ≡ history_text Second (kept ++ later)
whole_text begun kept [] some unbegun = absurd (omega arith)
whole_text true kept (e ∷ later) some unbegun =
    append_assoc (first_line Second) (flat_map line_of kept) (flat_map line_of (e ∷ later))
    ∙ ap (λ (l : List ℕ). first_line Second ++ l) (sym (flat_map-append line_of kept (e ∷ later)))
whole_text false kept (e ∷ later) some unbegun = ap (λ (es : List Entry). history_text Second (es ++ e ∷ later)) (sym (unbegun refl))

-- ---- what a refused call leaves

-- the text that waits is longer
left_longer : (stored : Option Stored) (text old more new : List ℕ) → HoldsLeft stored text old → new ≡ old ++ more → HoldsLeft stored text new
left_longer None text old more new left is = tt
left_longer (Some stored) text old more new left is = record {
  part = left.part;
  begins = begins_longer left.part old more new left.begins is;
  held = left.held;
  durable = left.durable;
}

-- a call is refused now
left_now : (old new : Option Stored) (text more : List ℕ) → HoldsDurably old text → HoldsPart old new more → HoldsLeft new text more
left_now None new text more holds part = subst (λ (n : Option Stored). HoldsLeft n text more) (sym part) tt
left_now (Some old) None text more holds part = absurd part
left_now (Some old) (Some new) text more holds part = subst (λ (o : Stored). HasPart o new more) holds part

-- the text of what is kept, and a beginning of what waits, begin the text of all
left_begins : (begun : Bool) (kept later : List Entry) (part : List ℕ) → (begun ≡ false → kept ≡ []) → IsBeginning part (lines_behind begun later)
    → IsBeginning (journal_text begun kept ++ part) (history_text Second (kept ++ later))
left_begins begun kept [] part unbegun begins = by part begins begun unbegun
  where
    by : (p : List ℕ) → IsBeginning p [] → (b : Bool) → (b ≡ false → kept ≡ []) → IsBeginning (journal_text b kept ++ p) (history_text Second (kept ++ []))
    by [] nothing true none = record {
      rest = [];
      is =
          ap (λ (es : List Entry). history_text Second es) (append-nil kept)
          ∙ sym (append-nil (history_text Second kept))
          ∙ sym (append-nil (history_text Second kept ++ []));
    }
    by [] nothing false none = record { rest = history_text Second (kept ++ []); is = refl }
    by (b ∷ p) nothing begun none = absurd (cc (nothing.is))
left_begins begun kept (e ∷ later) part unbegun begins = record {
  rest = begins.rest;
  is =
      sym (whole_text begun kept (e ∷ later) (omega arith) unbegun)
      ∙ ap (λ (l : List ℕ). journal_text begun kept ++ l) begins.is
      ∙ sym (append_assoc (journal_text begun kept) part begins.rest);
}

-- a journal that refused holds what a crash may leave
pub left_part : (s : Scribing) → IsScribing s → s.refused ≡ true → LeavesPart s s.stored
left_part s is refused = by s.stored (is.left refused)
  where
    by : (stored : Option Stored) → HoldsLeft stored (journal_text s.begun s.kept.entries) s.text → LeavesPart s stored
    by None left = tt
    by (Some stored) left =
        let waits : IsBeginning left.part (lines_behind s.begun is.later) = subst (IsBeginning left.part) is.waits left.begins in
        let whole : IsBeginning (journal_text s.begun s.kept.entries ++ left.part) (history_text Second (s.kept.entries ++ is.later)) =
        left_begins s.begun s.kept.entries is.later left.part is.unbegun waits in
        record {
          beginning =
              subst (λ (es : List Entry). IsBeginning stored.bytes (history_text Second es)) (sym is.whole)
              (subst (λ (l : List ℕ). IsBeginning l (history_text Second (s.kept.entries ++ is.later))) (sym left.held) whole);
          kept = record { rest = left.part; is = left.held };
          durable = left.durable;
        }

-- ---- entries are taken

pub taken : (s : Scribing) (text : List ℕ) (added : List Entry) → IsScribing s → 0 < length added → All IsSound added
    → text ≡ s.text ++ (opening_of (not s.begun && (length s.handed.entries == 0)) ++ flat_map line_of added)
    → IsScribing (record s { handed = with_more s.handed added; text = text })
taken s text [] is some sound put = absurd (omega arith)
taken s text (e ∷ added) is some sound put = record {
  book = is.book;
  later = is.later ++ e ∷ added;
  whole = ap (λ (es : List Entry). es ++ e ∷ added) is.whole ∙ append_assoc s.kept.entries is.later (e ∷ added);
  sound = All-append IsSound s.handed.entries (e ∷ added) is.sound sound;
  unbegun = is.unbegun;
  waits =
      put
      ∙ ap (λ (t : Bool). s.text ++ (opening_of t ++ flat_map line_of (e ∷ added))) (same_first s.begun s.kept.entries is.later s.handed.entries is.whole is.unbegun)
      ∙ ap (λ (l : List ℕ). l ++ (opening_of (not s.begun && (length is.later == 0)) ++ flat_map line_of (e ∷ added))) is.waits
      ∙ lines_more s.begun is.later e added;
  durable = is.durable;
  left = λ refused. left_longer s.stored (journal_text s.begun s.kept.entries) s.text (opening_of (not s.begun && (length s.handed.entries == 0)) ++ flat_map line_of (e ∷ added)) text (is.left refused) put;
}

-- ---- what was handed is kept

-- a text of which all is durable
abbrev durable_text : List ℕ → Stored
durable_text bytes = record { bytes = bytes; durable = length bytes }

held_more : (old new : Option Stored) (held text whole : List ℕ) → HoldsDurably old held → HoldsMore old new text → held ++ text ≡ whole → HoldsDurably new whole
held_more None new held text whole holds more is = subst (λ (n : Option Stored). HoldsDurably n whole) (sym more) tt
held_more (Some old) new held text whole holds more is =
    subst (λ (n : Option Stored). HoldsDurably n whole) (sym more) (ap durable_text (ap (λ (o : Stored). o.bytes ++ text) holds ∙ is))

-- fewer entries are kept than were handed
some_later : (kept later handed : List Entry) → handed ≡ kept ++ later → (length kept ≡ length handed → ⊥) → 0 < length later
some_later kept [] handed whole fewer = absurd (fewer (ap length (sym (append-nil kept) ∙ sym whole)))
some_later kept (e ∷ later) handed whole fewer = omega arith

-- a scribe all of whose entries are kept
abbrev pub all_kept : Scribing → Option Stored → Scribing
all_kept s stored = record { stored = stored; handed = s.handed; kept = s.handed; text = []; begun = true; refused = false }

pub kept_all : (s : Scribing) (stored : Option Stored) → IsScribing s → s.refused ≡ false → (length s.kept.entries ≡ length s.handed.entries → ⊥)
    → HoldsMore s.stored stored s.text → IsScribing (all_kept s stored)
kept_all s stored is live fewer more = record {
  book = refl;
  later = [];
  whole = sym (append-nil s.handed.entries);
  sound = is.sound;
  unbegun = λ other. absurd (true≢false other);
  waits = refl;
  durable =
      λ still.
      held_more s.stored stored (journal_text s.begun s.kept.entries) s.text (history_text Second s.handed.entries) (is.durable live) more
      (ap (λ (l : List ℕ). journal_text s.begun s.kept.entries ++ l) is.waits
      ∙ whole_text s.begun s.kept.entries is.later (some_later s.kept.entries is.later s.handed.entries is.whole fewer) is.unbegun
      ∙ ap (λ (es : List Entry). history_text Second es) (sym is.whole));
  left = λ refused. absurd (true≢false (sym refused));
}

-- ---- the journal refused

pub refused_now : (s : Scribing) (stored : Option Stored) → IsScribing s → s.refused ≡ false → HoldsPart s.stored stored s.text → IsScribing (record s { stored = stored; refused = true })
refused_now s stored is live part = record {
  book = is.book;
  later = is.later;
  whole = is.whole;
  sound = is.sound;
  unbegun = is.unbegun;
  waits = is.waits;
  durable = λ other. absurd (true≢false other);
  left = λ refused. left_now s.stored stored (journal_text s.begun s.kept.entries) s.text (is.durable live) part;
}

-- ---- a scribe begins

pub begun_scribing : (held : Option Stored) (all : Listed) (entries : List Entry) (begun : Bool) → all.entries ≡ entries → All IsSound entries → (begun ≡ false → entries ≡ [])
    → HoldsDurably held (journal_text begun entries)
    → IsScribing (record { stored = held; handed = all; kept = all; text = []; begun = begun; refused = false })
begun_scribing held all entries begun same sound unbegun holds = record {
  book = refl;
  later = [];
  whole = sym (append-nil all.entries);
  sound = subst (All IsSound) (sym same) sound;
  unbegun = λ none. same ∙ unbegun none;
  waits = refl;
  durable = λ still. subst (λ (es : List Entry). HoldsDurably held (journal_text begun es)) (sym same) holds;
  left = λ refused. absurd (true≢false (sym refused));
}
