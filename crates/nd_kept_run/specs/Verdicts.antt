-- The verdict on the history that a journal tells, before it is written. No public clause cites this: it serves private clauses alone.
use Rattle.std.specs.Prelude.{◌≡◌, ℕ, true, List, length, reverse, Option, Some, Result, Ok, Err, MatchResult}
use Rattle.nd_cli.specs.declared.options.ParkOptions.{ParkOptions}
use Rattle.nd_commands.specs.Audited.{legal_line, illegal_line}
use Rattle.nd_history.specs.declared.entry.Entry.{Entry}
use Rattle.nd_history.specs.Legal.{IsLegal}
use Rattle.nd_history.specs.Premises.{Premises}
use Rattle.nd_kept_run.specs.Audited.{ReadsAudited}
use Rattle.nd_kept_run.specs.Reported.{IsNoRefusal}
use Rattle.nd_kept_run.specs.declared.auditing.Verdict.{Verdict}
use Rattle.nd_kept_run.specs.declared.auditing.Verdict.TheVariants.{Legal, Illegal}
use Rattle.nd_ledger.specs.Worlds.{World}
use Rattle.nd_report.specs.Audits.{IsFirstIllegal}
use Rattle.nd_serve_command.specs.Sessions.{AcceptsSession}
use Rattle.nd_serve_command.specs.declared.fault.ServeFault.{ServeFault}
use Rattle.nd_serve_command.specs.declared.fault.ServeFault.TheVariants.{Journal}
use Rattle.nd_serve_command.specs.declared.resume_error.ResumeError.TheVariants.{Illegal as IllegalJournal}

-- it is that on these entries
abbrev pub IsVerdictOn : Premises → List Entry → Verdict → Type 0
IsVerdictOn i entries (Legal count) = IsLegal i (reverse entries) × (count ≡ length entries)
IsVerdictOn i entries (Illegal index rule) = IsFirstIllegal i entries index rule

-- .. which were read
pub record JudgesJournal (options : ParkOptions) (journal : List ℕ) (unread left : Option (List ℕ)) (verdict : Verdict) : Type 0 where
  pub inputs : Premises
  pub entries : List Entry
  pub reads : ReadsAudited options journal unread left inputs entries
  pub on : IsVerdictOn inputs entries verdict

-- its line, and the status
abbrev pub verdict_text : Verdict → List ℕ
verdict_text (Legal count) = legal_line count
verdict_text (Illegal index rule) = illegal_line index rule

abbrev pub verdict_status : Verdict → ℕ
verdict_status (Legal count) = 0
verdict_status (Illegal index rule) = 4

-- the verdict that a refusal of the journal is
abbrev pub verdict_of : ServeFault → Result Verdict ServeFault
verdict_of (Journal (IllegalJournal index rule)) = Ok (Illegal index rule)
verdict_of fault = Err fault

-- that the history of this dispatch is legal
abbrev pub legal_verdict : World → Verdict
legal_verdict world = Legal (length world.history)

-- it is this one, wherever the reader is known to have a bundle left that is accepted, with the park and the journal, unless it failed or memory
-- ran out
abbrev pub JudgesAccepted : ParkOptions → List ℕ → Option (List ℕ) → Result Verdict ServeFault → Type 0
JudgesAccepted options journal unread answer =
    (text : List ℕ) (world : World) → unread ≡ Some text → AcceptsSession options text journal true world
    → MatchResult answer (λ verdict. verdict ≡ legal_verdict world) IsNoRefusal
