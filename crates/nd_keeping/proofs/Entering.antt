-- The step that enters an entry keeps the rule of its book.
use Rattle.std.proofs.Common.{◌≡◌, ℕ, ◌+◌, ◌<◌, ◌==◌, Bool, true, false, List, [], ◌∷◌, ◌++◌, length, None, inl, refl, ap, sym, subst, arith, length-append, append-nil, eqb-true}
use mathlib.Core.List.{IsPrefix}
use prog.Atomic.{either}
use Rattle.logbook.specs.Pages.{Cell, cell, View, keeps, no_nib, step, Moves, Goes}
use Rattle.nd_history.specs.declared.entry.Entry.{Entry}
use Rattle.nd_keeping.specs.Counting.{IsCounted, Enters}
use Rattle.nd_keeping.proofs.Beginnings.{whole_begun}

-- callers of a book see nothing of it
abbrev pub unseen : List Entry → List Entry
unseen log = []

abbrev pub unmoved : List Entry → List Entry → ℕ → Type 0
unmoved old new answer = Unit {0}

abbrev pub before : List Entry → View Entry ℕ
before seen = (seen, (no_nib, None))

-- what the word is after the step, which finds n in it
abbrev pub counted : ℕ → ℕ → ℕ
counted old n = either (n == old) (old + 1) n

-- the two words of a book of n entries
abbrev pub two_words : ℕ → List Cell
two_words n = (n, true) ∷ (0, true) ∷ []

enters_by : (log seen : List Entry) (e : Entry) (old : ℕ) → length seen ≡ old → IsPrefix seen log → (here : Bool) → (length log == old) ≡ here
    → Goes IsCounted unseen unmoved 0 (before seen) (counted old) (Enters (step 0 old (old + 1) e) (before seen)) (two_words (length log)) log
enters_by log seen e old long begins true is =
    let as_many : length log ≡ old = eqb-true (length log) old is in
    let all : seen ≡ log = whole_begun seen log begins (omega arith) in
    let more : counted old (length log) ≡ length (log ++ e ∷ []) = rw is (omega (arith, length-append log (e ∷ []))) in (
      keeps,
      e ∷ [],
      None,
      tt,
      record { words = ap two_words more },
      inl (refl, refl),
      rw is (ap (λ (l : List Entry). l ++ e ∷ []) (sym all)),
    )
enters_by log seen e old long begins false is =
    let none : log ++ [] ≡ log = append-nil log in
    let same : counted old (length log) ≡ length (log ++ []) = rw is (ap length (sym none)) in (
      keeps,
      [],
      None,
      tt,
      record { words = ap two_words same },
      inl (refl, refl),
      rw is (ap length none),
    )

-- whatever the book is by then, the step enters the entry behind all that were seen, or finds that there are others
pub enters : (seen : List Entry) (e : Entry) (old : ℕ) → length seen ≡ old
    → Moves IsCounted unseen unmoved 0 (before seen) (counted old) (Enters (step 0 old (old + 1) e) (before seen))
enters seen e old long cells log kept begins away =
    let Step : List Cell → Type 0 = λ c. (0 < length c) × ((cell c 0).1 ≡ true) × Goes IsCounted unseen unmoved 0 (before seen) (counted old) (Enters (step 0 old (old + 1) e) (before seen)) c log in
    subst Step (sym kept.words) (omega arith, refl, enters_by log seen e old long begins (length log == old) refl)
