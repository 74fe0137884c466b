-- A journal as bytes: the text of a history in the second version, and perhaps the beginning of one more line. Histories stand oldest first.
-- The form is this project's own.
-- Public clauses cite this, but for `error_of`, which serves a private one.
use Rattle.std.specs.Prelude.{◌≡◌, ◌⊎◌, ℕ, ◌+◌, List, [], ◌++◌, length, Result, MatchResult, codes}
use Rattle.std.specs.Fmt.{decimal}
use Rattle.std.specs.List.{All}
use Rattle.nd_history.specs.declared.entry.Entry.{Entry}
use Rattle.nd_history_text.specs.HistoryTexts.{first_line, history_text}
use Rattle.nd_history_text.specs.Sound.{IsTold, IsFirstBad}
use Rattle.nd_history_text.specs.declared.history_error.HistoryError.{HistoryError}
use Rattle.nd_history_text.specs.declared.history_error.HistoryError.TheVariants.{Version, BadLine as BadHistoryLine, Memory as NoMemory}
use Rattle.nd_history_text.specs.declared.kinds.Version.TheVariants.{Second}
use Rattle.nd_journal.specs.BegunLines.{IsBegunLine}
use Rattle.nd_journal.specs.WholeLines.{whole_lines, unfinished, IsBeginning}
use Rattle.nd_journal.specs.declared.journal.Journal.{Journal}
use Rattle.nd_journal.specs.declared.journal.JournalError.{JournalError}
use Rattle.nd_journal.specs.declared.journal.JournalError.TheVariants.{BadLine, Memory}

-- the whole lines of the bytes are the text of these entries in the second version, and what stands behind them may be left of one more entry's line
pub record IsJournalText (bytes : List ℕ) (entries : List Entry) : Type 0 where
  pub told : All (IsTold Second) entries
  pub text : whole_lines bytes ≡ history_text Second entries
  pub last : IsBegunLine (unfinished bytes)

-- the bytes have no whole line, and are a beginning of the first one: nothing was kept yet
pub record IsUnbegun (bytes : List ℕ) (entries : List Entry) : Type 0 where
  pub none : whole_lines bytes ≡ []
  pub begins : IsBeginning bytes (first_line Second)
  pub empty : entries ≡ []

-- what a journal's bytes are read as
abbrev pub IsReadAs : List ℕ → List Entry → Type 0
IsReadAs bytes entries = IsUnbegun bytes entries ⊎ IsJournalText bytes entries

-- the bytes neither begin with the first line of the second version nor are a beginning of it
pub record IsFirstLineBad (bytes : List ℕ) (number : ℕ) : Type 0 where
  pub first : number ≡ 1
  pub other : IsBeginning (first_line Second) bytes → ⊥
  pub unbegun : IsBeginning bytes (first_line Second) → ⊥

-- the first line is that of the second version, and this is the first whole line that is no entry's
pub record IsLaterLineBad (bytes : List ℕ) (number : ℕ) : Type 0 where
  pub bad : IsFirstBad (whole_lines bytes) number
  pub second : bad.version ≡ Second

-- all whole lines are those of a journal, and what stands behind them, in the line with this number, isn't left of an entry's line
pub record IsLastLineBad (bytes : List ℕ) (number : ℕ) : Type 0 where
  pub before : List Entry
  pub told : All (IsTold Second) before
  pub text : whole_lines bytes ≡ history_text Second before
  pub place : number ≡ length before + 2
  pub other : IsBegunLine (unfinished bytes) → ⊥

-- a journal is refused for its first line, or else for its first whole line that is no entry's, or else for its last line, which isn't finished
abbrev pub IsJournalRefused : List ℕ → JournalError → Type 0
IsJournalRefused bytes (BadLine number) = IsFirstLineBad bytes number ⊎ (IsLaterLineBad bytes number ⊎ IsLastLineBad bytes number)
IsJournalRefused bytes Memory = Unit {0}

-- the name that a journal's refusal has for one of its whole lines as a history text
abbrev pub error_of : HistoryError → JournalError
error_of Version = BadLine 1
error_of (BadHistoryLine number) = BadLine number
error_of NoMemory = Memory

-- the journal with these bytes was read, unless memory ran out
abbrev pub IsReadUnlessMemory : Result Journal JournalError → List Entry → Type 0
IsReadUnlessMemory answer entries = MatchResult answer (λ journal. journal.entries.items ≡ entries) (λ e. e ≡ Memory)

-- what is printed of a refusal
abbrev pub refusal_text : JournalError → List ℕ
refusal_text (BadLine number) = codes "BadLine " ++ decimal number
refusal_text Memory = codes "Memory"
