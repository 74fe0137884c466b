-- What a journal is read as.
use Rattle.std.proofs.Common.{◌≡◌, ◌∙◌, ℕ, ◌+◌, true, false, List, [], ◌∷◌, ◌++◌, length, take, drop, get_or, refl, sym, ap, subst, append-nil, append_assoc, inl, inr, nat_eq}
use Rattle.std.specs.Prelude.{codes}
use Rattle.std.specs.Cmp.Lexicographic.{pointwise}
use Rattle.std.specs.List.{All, flat_map}
use Rattle.std.proofs.lemmas.Bool.{eqb-false}
use Rattle.std.proofs.lemmas.List.Elements.{All-nil}
use Rattle.nd_history.specs.declared.entry.Entry.{Entry}
use Rattle.nd_history_text.specs.HistoryTexts.{line_of, first_line, history_text}
use Rattle.nd_history_text.specs.Sound.{IsTold, IsHistoryText, IsFirstBad, HasNoVersion}
use Rattle.nd_history_text.specs.declared.kinds.Version.{Version}
use Rattle.nd_history_text.specs.declared.kinds.Version.TheVariants.{First, Second}
use Rattle.nd_history_text.proofs.Once.{texts_go_on}
use Rattle.nd_history_text.proofs.Parts.{prefix_none, prefix_some}
use Rattle.nd_journal.specs.BegunLines.{IsBegunLine, IsNoBegunLine}
use Rattle.nd_journal.specs.WholeLines.{whole_lines, unfinished, IsBeginning, IsNoBeginning}
use Rattle.nd_journal.specs.JournalTexts.{IsJournalText, IsReadAs, IsFirstLineBad, IsLaterLineBad, IsLastLineBad}
use Rattle.nd_journal.proofs.LinesKept.{cut_at, whole_none, whole_through}

-- ---- what texts begin with

pub begun_with : (text front rest : List ℕ) → pointwise nat_eq (take (length front) text) front ≡ true → rest ≡ drop (length front) text → IsBeginning front text
begun_with text front rest same behind = record { rest = rest; is = prefix_some text front rest same behind }

pub not_begun_with : (text front : List ℕ) → pointwise nat_eq (take (length front) text) front ≡ false → IsNoBeginning front text
not_begun_with text front differ = record { never = λ h. prefix_none text front differ h.rest h.is }

pub ruleset firsts = (begun_with, not_begun_with)

-- ---- the first line

-- without its newline
abbrev pub version_line : List ℕ
version_line = codes "nix-dispatch-history 2"

first_is : first_line Second ≡ version_line ++ 10 ∷ []
unfolding first_line
first_is = refl

pub first_through : (rest : List ℕ) → first_line Second ++ rest ≡ version_line ++ 10 ∷ rest
first_through rest = ap (λ (l : List ℕ). l ++ rest) first_is ∙ append_assoc version_line (10 ∷ []) rest

pub first_begun : (bytes : List ℕ) → IsBeginning bytes version_line → IsBeginning bytes (first_line Second)
first_begun bytes begins = record {
  rest = begins.rest ++ 10 ∷ [];
  is = first_is ∙ ap (λ (l : List ℕ). l ++ 10 ∷ []) begins.is ∙ append_assoc bytes begins.rest (10 ∷ []);
}

-- whole lines that begin with it
pub whole_behind : (rest : List ℕ) → whole_lines (first_line Second ++ rest) ≡ first_line Second ++ whole_lines rest
whole_behind rest = ap whole_lines (first_through rest) ∙ whole_through version_line rest ∙ sym (first_through (whole_lines rest))

pub whole_begins : (bytes : List ℕ) → IsBeginning (first_line Second) bytes → IsBeginning (first_line Second) (whole_lines bytes)
whole_begins bytes begins = record { rest = whole_lines begins.rest; is = ap whole_lines begins.is ∙ whole_behind begins.rest }

-- a beginning of it alone has no whole line
pub none_whole : (bytes : List ℕ) → IsNoBeginning (first_line Second) bytes → IsBeginning bytes (first_line Second) → whole_lines bytes ≡ []
none_whole bytes other begins =
    elim (cut_at version_line bytes begins.rest [] refl (sym begins.is ∙ first_is)) [
      | inl within ↦ whole_none bytes within.silent
      | inr found ↦ absurd (other.never (record { rest = found.more; is = found.file_is ∙ sym (first_through found.more) }))
    ]

pub unbegun : (bytes first : List ℕ) (entries : List Entry) → first ≡ first_line Second → IsNoBeginning first bytes → IsBeginning bytes first → entries ≡ [] → IsReadAs bytes entries
unbegun bytes first entries is other begins empty =
    inl (record {
      none = none_whole bytes (subst (λ (l : List ℕ). IsNoBeginning l bytes) is other) (subst (IsBeginning bytes) is begins);
      begins = subst (IsBeginning bytes) is begins;
      empty = empty;
    })

pub none_kept : (bytes first : List ℕ) → first ≡ first_line Second → IsNoBeginning first bytes → IsBeginning bytes first → 0 ≡ length (whole_lines bytes)
none_kept bytes first is other begins =
    sym (ap length (none_whole bytes (subst (λ (l : List ℕ). IsNoBeginning l bytes) is other) (subst (IsBeginning bytes) is begins)))

pub first_refused : (bytes first : List ℕ) → first ≡ first_line Second → IsNoBeginning first bytes → IsNoBeginning bytes first → IsFirstLineBad bytes 1
first_refused bytes first is other unbegun = record {
  first = refl;
  other = λ h. other.never (subst (λ (l : List ℕ). IsBeginning l bytes) (sym is) h);
  unbegun = λ h. unbegun.never (subst (IsBeginning bytes) (sym is) h);
}

-- ---- the whole

-- a history text that begins so is one of the second version
in_second : (text : List ℕ) (entries : List Entry) → IsBeginning (first_line Second) text → (h : IsHistoryText text entries) → Second ≡ h.version
in_second text entries begins h =
    (texts_go_on Second h.version [] entries begins.rest (All-nil (IsTold Second)) h.told
    (ap (λ (l : List ℕ). l ++ begins.rest) (append-nil (first_line Second)) ∙ sym begins.is ∙ h.text)).0

-- .. so the whole lines are a text of the second version
pub record IsSecondText (lines : List ℕ) (entries : List Entry) : Type 0 where
  pub told : All (IsTold Second) entries
  pub text : lines ≡ history_text Second entries

second_read : (bytes : List ℕ) (entries : List Entry) → IsBeginning (first_line Second) bytes → IsHistoryText (whole_lines bytes) entries → IsSecondText (whole_lines bytes) entries
second_read bytes entries begins h =
    let version = in_second (whole_lines bytes) entries (whole_begins bytes begins) h in
    record {
      told = subst (λ (v : Version). All (IsTold v) entries) (sym version) h.told;
      text = h.text ∙ ap (λ (v : Version). history_text v entries) (sym version);
    }

pub journal_read : (bytes whole rest : List ℕ) (entries : List Entry) → whole ≡ whole_lines bytes → rest ≡ unfinished bytes → IsBeginning (first_line Second) bytes
    → IsHistoryText whole entries → IsBegunLine rest → IsReadAs bytes entries
journal_read bytes whole rest entries same behind begins h last =
    let read = second_read bytes entries begins (subst (λ (l : List ℕ). IsHistoryText l entries) same h) in
    inr (record { told = read.told; text = read.text; last = subst IsBegunLine behind last })

pub last_refused : (bytes whole rest : List ℕ) (entries : List Entry) (count : ℕ) → whole ≡ whole_lines bytes → rest ≡ unfinished bytes → IsBeginning (first_line Second) bytes
    → IsHistoryText whole entries → IsNoBegunLine rest → count ≡ length entries → IsLastLineBad bytes (count + 2)
last_refused bytes whole rest entries count same behind begins h none is =
    let read = second_read bytes entries begins (subst (λ (l : List ℕ). IsHistoryText l entries) same h) in
    record {
      before = entries;
      told = read.told;
      text = read.text;
      place = ap (λ (n : ℕ). n + 2) is;
      other = λ begun. none.never (subst IsBegunLine (sym behind) begun);
    }

-- a text that begins so has a version
pub some_version : (bytes whole : List ℕ) → whole ≡ whole_lines bytes → IsBeginning (first_line Second) bytes → HasNoVersion whole → ⊥
some_version bytes whole same begins none = let here = whole_begins bytes begins in none Second here.rest (same ∙ here.is)

-- .. which is the second
second_only : (version : Version) (rest more : List ℕ) → first_line Second ++ rest ≡ first_line version ++ more → version ≡ Second
unfolding first_line
second_only Second rest more same = refl
second_only First rest more same = absurd (eqb-false 50 49 refl (ap (λ (l : List ℕ). get_or l 21 0) same))

pub later_refused : (bytes whole : List ℕ) (number : ℕ) → whole ≡ whole_lines bytes → IsBeginning (first_line Second) bytes → IsFirstBad whole number → IsLaterLineBad bytes number
later_refused bytes whole number same begins bad =
    let here : IsFirstBad (whole_lines bytes) number = subst (λ (l : List ℕ). IsFirstBad l number) same bad in
    let first = whole_begins bytes begins in
    record {
      bad = here;
      second =
          second_only here.version first.rest (flat_map line_of here.before ++ here.rest)
          (sym first.is ∙ here.whole ∙ append_assoc (first_line here.version) (flat_map line_of here.before) here.rest);
    }

-- ---- what a journal's text isn't

pub text_of_journal : (bytes : List ℕ) (entries : List Entry) → All (IsTold Second) entries → whole_lines bytes ≡ history_text Second entries → IsHistoryText (whole_lines bytes) entries
text_of_journal bytes entries told text = record { version = Second; told = told; text = text }

starts : (rest : List ℕ) → [] ≡ first_line Second ++ rest → ⊥
unfolding first_line
starts rest h = cc

-- it has a whole line
pub not_none : (bytes : List ℕ) (entries : List Entry) → whole_lines bytes ≡ [] → whole_lines bytes ≡ history_text Second entries → ⊥
not_none bytes entries none text = starts _ (sym none ∙ text)

pub not_empty : (bytes whole : List ℕ) (entries : List Entry) → whole ≡ whole_lines bytes → length whole ≡ 0 → IsJournalText bytes entries → ⊥
not_empty bytes [] entries same none h = starts _ (same ∙ h.text)
not_empty bytes (b ∷ whole) entries same none h = cc
