-- A journal's bytes have one answer.
use Rattle.std.proofs.Common.{◌≡◌, ◌∙◌, ℕ, List, [], ◌∷◌, ◌++◌, length, Result, Ok, Err, IfErr, refl, sym, ap, subst, arith, append_assoc, length-append, inl, inr}
use Rattle.std.specs.Prelude.{IfOk}
use Rattle.std.specs.List.{All, flat_map}
use Rattle.std.proofs.lemmas.List.Elements.{All-head, All-tail}
use Rattle.nd_history.specs.declared.entry.Entry.{Entry}
use Rattle.nd_history_text.specs.HistoryTexts.{line_of, first_line, history_text}
use Rattle.nd_history_text.specs.Sound.{IsTold, IsHistoryText, IsRefused}
use Rattle.nd_history_text.specs.declared.history_error.HistoryError.{HistoryError}
use Rattle.nd_history_text.specs.declared.history_error.HistoryError.TheVariants.{Version as NoVersion, BadLine as BadHistoryLine, Memory as NoMemory}
use Rattle.nd_history_text.specs.declared.kinds.Version.{Version}
use Rattle.nd_history_text.specs.declared.kinds.Version.TheVariants.{Second}
use Rattle.nd_history_text.proofs.Once.{line_once}
use Rattle.nd_history_text.proofs.Texts.{one_history, no_history}
use Rattle.nd_journal.specs.WholeLines.{whole_lines, unfinished, IsBeginning}
use Rattle.nd_journal.specs.JournalTexts.{IsReadAs, IsUnbegun, IsJournalText, IsJournalRefused, IsFirstLineBad, IsLaterLineBad, IsLastLineBad, IsReadUnlessMemory, error_of}
use Rattle.nd_journal.specs.JournalLaws.{JournalsHaveOneAnswer}
use Rattle.nd_journal.specs.declared.journal.Journal.{Journal}
use Rattle.nd_journal.specs.declared.journal.JournalError.{JournalError}
use Rattle.nd_journal.specs.declared.journal.JournalError.TheVariants.{BadLine, Memory}
use Rattle.nd_journal.proofs.LineStarts.{same_behind}
use Rattle.nd_journal.proofs.LinesKept.{whole_part}
use Rattle.nd_journal.proofs.Reading.{journal_read, unbegun, none_kept, first_refused, later_refused, last_refused, some_version, text_of_journal, not_none}

-- ---- one history

journal_text : (bytes : List ℕ) (entries : List Entry) → IsJournalText bytes entries → IsHistoryText (whole_lines bytes) entries
journal_text bytes entries h = text_of_journal bytes entries h.told h.text

pub read_once : (bytes : List ℕ) (entries others : List Entry) → IsReadAs bytes entries → IsReadAs bytes others → entries ≡ others
read_once bytes entries others one other = elim one [
  | inl none ↦ elim other [
    | inl also ↦ none.empty ∙ sym also.empty
    | inr text ↦ absurd (not_none bytes others none.none text.text)
  ]
  | inr text ↦ elim other [
    | inl none ↦ absurd (not_none bytes entries none.none text.text)
    | inr also ↦ one_history (whole_lines bytes) entries others (journal_text bytes entries text) (journal_text bytes others also)
  ]
]

-- ---- one bad line

-- no line of an entry comes next
abbrev NoLine : Version → List ℕ → Type 0
NoLine version rest = (e : Entry) (after : List ℕ) → IsTold version e → rest ≡ line_of e ++ after → ⊥

bad_line_once : (version : Version) (before others : List Entry) (rest more : List ℕ) → All (IsTold version) before → All (IsTold version) others → NoLine version rest → NoLine version more
    → flat_map line_of before ++ rest ≡ flat_map line_of others ++ more → length before ≡ length others
bad_line_once version [] [] rest more h k bad worse same = refl
bad_line_once version [] (f ∷ others) rest more h k bad worse same =
    absurd (bad f (flat_map line_of others ++ more) (All-head (IsTold version) f others k) (same ∙ append_assoc (line_of f) (flat_map line_of others) more))
bad_line_once version (e ∷ before) [] rest more h k bad worse same =
    absurd (worse e (flat_map line_of before ++ rest) (All-head (IsTold version) e before h) (sym same ∙ append_assoc (line_of e) (flat_map line_of before) rest))
bad_line_once version (e ∷ before) (f ∷ others) rest more h k bad worse same =
    let here = line_once e f (flat_map line_of before ++ rest) (flat_map line_of others ++ more) (All-head (IsTold version) e before h).sound
    (All-head (IsTold version) f others k).sound
    (sym (append_assoc (line_of e) (flat_map line_of before) rest) ∙ same ∙ append_assoc (line_of f) (flat_map line_of others) more) in
    omega (arith, bad_line_once version before others rest more (All-tail (IsTold version) e before h) (All-tail (IsTold version) f others k) bad worse here.1)

-- the text of a later bad line, in the second version
second_text : (bytes : List ℕ) (number : ℕ) (h : IsLaterLineBad bytes number) → whole_lines bytes ≡ first_line Second ++ (flat_map line_of h.bad.before ++ h.bad.rest)
second_text bytes number h =
    h.bad.whole ∙ append_assoc (first_line h.bad.version) (flat_map line_of h.bad.before) h.bad.rest
    ∙ ap (λ (v : Version). first_line v ++ (flat_map line_of h.bad.before ++ h.bad.rest)) h.second

later_once : (bytes : List ℕ) (number other : ℕ) → IsLaterLineBad bytes number → IsLaterLineBad bytes other → number ≡ other
later_once bytes number other h k =
    let lines : flat_map line_of h.bad.before ++ h.bad.rest ≡ flat_map line_of k.bad.before ++ k.bad.rest =
    same_behind (first_line Second) _ _ (sym (second_text bytes number h) ∙ second_text bytes other k) in
    let same = bad_line_once Second h.bad.before k.bad.before h.bad.rest k.bad.rest
    (subst (λ (v : Version). All (IsTold v) h.bad.before) h.second h.bad.told)
    (subst (λ (v : Version). All (IsTold v) k.bad.before) k.second k.bad.told)
    (subst (λ (v : Version). NoLine v h.bad.rest) h.second h.bad.bad)
    (subst (λ (v : Version). NoLine v k.bad.rest) k.second k.bad.bad) lines in
    omega (arith, h.bad.place, k.bad.place, same)

-- where the whole lines begin so, the bytes do
bytes_begin : (bytes front rest : List ℕ) → whole_lines bytes ≡ front ++ rest → IsBeginning front bytes
bytes_begin bytes front rest same = record {
  rest = rest ++ unfinished bytes;
  is = sym (whole_part bytes) ∙ ap (λ (l : List ℕ). l ++ unfinished bytes) same ∙ append_assoc front rest (unfinished bytes);
}

last_once : (bytes : List ℕ) (number other : ℕ) → IsLastLineBad bytes number → IsLastLineBad bytes other → number ≡ other
last_once bytes number other h k =
    let same = one_history (whole_lines bytes) h.before k.before (text_of_journal bytes h.before h.told h.text) (text_of_journal bytes k.before k.told k.text) in
    omega (arith, h.place, k.place, ap length same)

later_not_last : (bytes : List ℕ) (number other : ℕ) → IsLaterLineBad bytes number → IsLastLineBad bytes other → ⊥
later_not_last bytes number other h k = no_history (whole_lines bytes) number k.before h.bad (text_of_journal bytes k.before k.told k.text)

first_not_later : (bytes : List ℕ) (number other : ℕ) → IsFirstLineBad bytes number → IsLaterLineBad bytes other → ⊥
first_not_later bytes number other h k = h.other (bytes_begin bytes (first_line Second) _ (second_text bytes other k))

first_not_last : (bytes : List ℕ) (number other : ℕ) → IsFirstLineBad bytes number → IsLastLineBad bytes other → ⊥
first_not_last bytes number other h k = h.other (bytes_begin bytes (first_line Second) _ k.text)

pub number_once : (bytes : List ℕ) (number other : ℕ) → IsJournalRefused bytes (BadLine number) → IsJournalRefused bytes (BadLine other) → number ≡ other
number_once bytes number other one another = elim one [
  | inl first ↦ elim another [
    | inl also ↦ first.first ∙ sym also.first
    | inr behind ↦ elim behind [
      | inl later ↦ absurd (first_not_later bytes number other first later)
      | inr last ↦ absurd (first_not_last bytes number other first last)
    ]
  ]
  | inr behind ↦ elim behind [
    | inl later ↦ elim another [
      | inl first ↦ absurd (first_not_later bytes other number first later)
      | inr further ↦ elim further [
        | inl also ↦ later_once bytes number other later also
        | inr last ↦ absurd (later_not_last bytes number other later last)
      ]
    ]
    | inr last ↦ elim another [
      | inl first ↦ absurd (first_not_last bytes other number first last)
      | inr further ↦ elim further [
        | inl later ↦ absurd (later_not_last bytes other number later last)
        | inr also ↦ last_once bytes number other last also
      ]
    ]
  ]
]

-- ---- one of the two

unbegun_whole : (bytes : List ℕ) (entries : List Entry) (number : ℕ) → IsUnbegun bytes entries → IsJournalRefused bytes (BadLine number) → ⊥
unbegun_whole bytes entries number none refused = elim refused [
  | inl first ↦ first.unbegun none.begins
  | inr behind ↦ elim behind [
    | inl later ↦
        let nothing : length (whole_lines bytes) ≡ 0 = ap length none.none in
        let all = ap length later.bad.whole ∙ length-append (history_text later.bad.version later.bad.before) later.bad.rest in
        omega (arith, later.bad.more, nothing, all)
    | inr last ↦ not_none bytes last.before none.none last.text
  ]
]

told_whole : (bytes : List ℕ) (entries : List Entry) (number : ℕ) → IsJournalText bytes entries → IsJournalRefused bytes (BadLine number) → ⊥
told_whole bytes entries number text refused = elim refused [
  | inl first ↦ first.other (bytes_begin bytes (first_line Second) _ text.text)
  | inr behind ↦ elim behind [
    | inl later ↦ no_history (whole_lines bytes) number entries later.bad (journal_text bytes entries text)
    | inr last ↦ last.other text.last
  ]
]

pub not_refused : (bytes : List ℕ) (entries : List Entry) (number : ℕ) → IsReadAs bytes entries → IsJournalRefused bytes (BadLine number) → ⊥
not_refused bytes entries number read refused = elim read [
  | inl none ↦ unbegun_whole bytes entries number none refused
  | inr text ↦ told_whole bytes entries number text refused
]

pub one_answer : JournalsHaveOneAnswer
one_answer = record { entries = read_once; number = number_once; either = not_refused }

-- ---- so nothing but want of memory refuses a journal

pub memory_alone : (bytes : List ℕ) (entries : List Entry) (e : JournalError) → IsJournalRefused bytes e → IsReadAs bytes entries → e ≡ Memory
memory_alone bytes entries (BadLine number) refused read = absurd (not_refused bytes entries number read refused)
memory_alone bytes entries Memory refused read = refl

pub exact_by : (bytes : List ℕ) (answer : Result Journal JournalError) (entries : List Entry) → IfOk answer (λ journal. IsReadAs bytes journal.entries.items)
    → IfErr answer (IsJournalRefused bytes) → IsReadAs bytes entries → IsReadUnlessMemory answer entries
exact_by bytes (Ok journal) entries read refused h = read_once bytes journal.entries.items entries read h
exact_by bytes (Err e) entries read refused h = memory_alone bytes entries e refused h

-- ---- whole lines that are no history text

pub lines_refused : (bytes whole : List ℕ) (e : HistoryError) (f : JournalError) → f ≡ error_of e → whole ≡ whole_lines bytes → IsBeginning (first_line Second) bytes → IsRefused whole e
    → IsJournalRefused bytes f
lines_refused bytes whole e f is same begins refused = subst (IsJournalRefused bytes) (sym is) (by e refused)
  where
    by : (e : HistoryError) → IsRefused whole e → IsJournalRefused bytes (error_of e)
    by NoVersion none = absurd (some_version bytes whole same begins none)
    by (BadHistoryLine number) bad = inr (inl (later_refused bytes whole number same begins bad))
    by NoMemory none = tt

pub ruleset begins = (unbegun, none_kept, first_refused)

pub ruleset readings = (journal_read, last_refused, lines_refused)
