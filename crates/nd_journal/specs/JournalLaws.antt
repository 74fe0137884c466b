-- Laws over the bytes of journals. Each is the contract of a function of `laws`.
use Rattle.std.specs.Prelude.{◌≡◌, ◌<◌, ℕ, List, ◌++◌, length}
use Rattle.nd_history.specs.declared.entry.Entry.{Entry}
use Rattle.nd_history_text.specs.HistoryTexts.{line_of}
use Rattle.nd_history_text.specs.Sound.{IsSound}
use Rattle.nd_journal.specs.BegunLines.{IsBegunLine}
use Rattle.nd_journal.specs.JournalTexts.{IsReadAs, IsJournalRefused}
use Rattle.nd_journal.specs.declared.journal.JournalError.TheVariants.{BadLine}

-- a journal's bytes have one answer: one history, or one refusal
pub record JournalsHaveOneAnswer : Type 0 where
  pub entries : (bytes : List ℕ) (entries others : List Entry) → IsReadAs bytes entries → IsReadAs bytes others → entries ≡ others
  pub number : (bytes : List ℕ) (number other : ℕ) → IsJournalRefused bytes (BadLine number) → IsJournalRefused bytes (BadLine other) → number ≡ other
  pub either : (bytes : List ℕ) (entries : List Entry) (number : ℕ) → IsReadAs bytes entries → IsJournalRefused bytes (BadLine number) → ⊥

-- whatever a crash leaves of an entry's line may stand behind the last newline
abbrev pub CutLinesAreBegun : Type 0
CutLinesAreBegun = (e : Entry) (left lost : List ℕ) → IsSound e → line_of e ≡ left ++ lost → 0 < length lost → IsBegunLine left
