-- When a dispatch gets the history of a journal, and why it doesn't. Histories stand oldest first.
-- Public clauses cite this, but for `journal_refusal`, which serves a private one.
use Rattle.std.specs.Prelude.{◌≡◌, ℕ, List, ◌++◌, reverse, Result, MatchResult, codes}
use Rattle.std.specs.Fmt.{decimal}
use Rattle.nd_history.specs.declared.entry.Entry.{Entry}
use Rattle.nd_history.specs.declared.rule.Rule.{Rule}
use Rattle.nd_history.specs.Audit.{rule_name}
use Rattle.nd_history.specs.Premises.{Premises}
use Rattle.nd_history.specs.Legal.{IsLegal}
use Rattle.nd_report.specs.Audits.{IsFirstIllegal}
use Rattle.nd_journal.specs.JournalTexts.{IsReadAs, IsJournalRefused}
use Rattle.nd_journal.specs.declared.journal.JournalError.{JournalError}
use Rattle.nd_journal.specs.declared.journal.JournalError.TheVariants.{BadLine as BadJournalLine, Memory as NoRoom}
use Rattle.nd_serve_command.specs.declared.resume_error.ResumeError.{ResumeError}
use Rattle.nd_serve_command.specs.declared.resume_error.ResumeError.TheVariants.{BadLine, Illegal, Memory}

-- the whole lines of the bytes tell these entries, which are a legal history
pub record IsResumable (i : Premises) (bytes : List ℕ) (entries : List Entry) : Type 0 where
  pub read : IsReadAs bytes entries
  pub legal : IsLegal i (reverse entries)

-- they tell entries of which this is the first that isn't allowed
pub record IsIllegalJournal (i : Premises) (bytes : List ℕ) (index : ℕ) (rule : Rule) : Type 0 where
  pub entries : List Entry
  pub read : IsReadAs bytes entries
  pub illegal : IsFirstIllegal i entries index rule

-- the refusal of bytes that aren't read as a journal for this
abbrev pub journal_refusal : JournalError → ResumeError
journal_refusal (BadJournalLine number) = BadLine number
journal_refusal NoRoom = Memory

-- when a journal is refused by which refusal
abbrev pub IsResumeRefused : Premises → List ℕ → ResumeError → Type 0
IsResumeRefused i bytes (BadLine number) = IsJournalRefused bytes (BadJournalLine number)
IsResumeRefused i bytes (Illegal index rule) = IsIllegalJournal i bytes index rule
IsResumeRefused i bytes Memory = Unit {0}

-- the dispatch has these entries, unless memory ran out
abbrev pub ResumesUnlessMemory : Result ℕ ResumeError → List Entry → List Entry → Type 0
ResumesUnlessMemory answer history entries = MatchResult answer (λ _. history ≡ entries) (λ e. e ≡ Memory)

-- what is printed of a refusal
abbrev pub refusal_text : ResumeError → List ℕ
refusal_text (BadLine number) = codes "BadLine " ++ decimal number
refusal_text (Illegal index rule) = codes "Illegal " ++ decimal index ++ codes " " ++ rule_name rule
refusal_text Memory = codes "Memory"
