-- What `audit` answers of a journal: whether the history that it tells is legal, and else the first entry that isn't allowed with the first rule that
-- refuses it. The contract of `audit_journal_engine` cites this. `IsUnjudged` serves that of a private function too.
use Rattle.std.specs.Prelude.{◌≡◌, ◌⊎◌, ℕ, ◌≤◌, true, List, length, Option, Some, Result, MatchResult}
use Rattle.std.specs.Io.KnownBytes.{Appends}
use Rattle.nd_cli.specs.declared.options.ParkOptions.{ParkOptions}
use Rattle.nd_cli.specs.declared.fault.CliFault.TheVariants.{Write}
use Rattle.nd_commands.specs.Audited.{WritesVerdict, WritesVerdictPart, legal_line}
use Rattle.nd_commands.specs.Opened.{ReadsInputs}
use Rattle.nd_devices.specs.Watched.{Watched}
use Rattle.nd_history.specs.declared.entry.Entry.{Entry}
use Rattle.nd_history.specs.declared.rule.Rule.{Rule}
use Rattle.nd_history.specs.Premises.{Premises}
use Rattle.nd_journal.specs.JournalTexts.{IsReadAs}
use Rattle.nd_kept_run.specs.Reported.{IsNoRefusal}
use Rattle.nd_ledger.specs.Worlds.{World}
use Rattle.nd_serve_command.specs.Sessions.{AcceptsSession, IsOpenFault, journal_limit}
use Rattle.nd_serve_command.specs.declared.fault.ServeFault.{ServeFault}
use Rattle.nd_serve_command.specs.declared.fault.ServeFault.TheVariants.{Cli, Journal}
use Rattle.nd_serve_command.specs.declared.resume_error.ResumeError.TheVariants.{Illegal as IllegalJournal}

-- the bundle was read whole, it and the options are accepted, and the journal, which is within the limit, is read as these entries
pub record ReadsAudited (options : ParkOptions) (journal : List ℕ) (unread left : Option (List ℕ)) (i : Premises) (entries : List Entry) : Type 0 where
  pub inputs : ReadsInputs options unread left i
  pub within : length journal ≤ journal_limit
  pub read : IsReadAs journal entries

-- .. and the verdict on them was written
pub record AuditsJournal {R W : Type 0} (options : ParkOptions) (journal : List ℕ) (status : ℕ) (remaining : R → Option (List ℕ)) (reader reader_after : Watched R) (contents : W → Option (List ℕ)) (writer writer_after : Watched W) : Type 0 where
  pub inputs : Premises
  pub entries : List Entry
  pub reads : ReadsAudited options journal (remaining reader.device) (remaining reader_after.device) inputs entries
  pub verdict : WritesVerdict inputs entries status contents writer writer_after

-- .. or a part of it, since the writer refused
pub record TearsVerdict {R W : Type 0} (options : ParkOptions) (journal : List ℕ) (remaining : R → Option (List ℕ)) (reader reader_after : Watched R) (contents : W → Option (List ℕ)) (writer writer_after : Watched W) (fault : ServeFault) : Type 0 where
  pub is : fault ≡ Cli Write
  pub inputs : Premises
  pub entries : List Entry
  pub reads : ReadsAudited options journal (remaining reader.device) (remaining reader_after.device) inputs entries
  pub part : WritesVerdictPart inputs entries contents writer writer_after

-- why there is no verdict: as of a report an input or the journal is refused, the reader failed and is marked, or memory ran out; that the history
-- isn't legal is none
pub record IsUnjudged {R : Type 0} (options : ParkOptions) (journal : List ℕ) (remaining : R → Option (List ℕ)) (reader reader_after : Watched R) (fault : ServeFault) : Type 0 where
  pub why : IsOpenFault options journal true remaining reader reader_after fault
  pub other : (index : ℕ) (rule : Rule) → fault ≡ Journal (IllegalJournal index rule) → ⊥

-- .. and the writer is as it was
pub record RefusesAudit {R W : Type 0} (options : ParkOptions) (journal : List ℕ) (remaining : R → Option (List ℕ)) (reader reader_after : Watched R) (writer writer_after : Watched W) (fault : ServeFault) : Type 0 where
  pub why : IsUnjudged options journal remaining reader reader_after fault
  pub untouched : writer_after ≡ writer

-- why there is no status
abbrev pub IsAuditFault : {R W : Type 0} → ParkOptions → List ℕ → (R → Option (List ℕ)) → Watched R → Watched R → (W → Option (List ℕ)) → Watched W → Watched W → ServeFault → Type 0
IsAuditFault options journal remaining reader reader_after contents writer writer_after fault =
    TearsVerdict options journal remaining reader reader_after contents writer writer_after fault
    ⊎ RefusesAudit options journal remaining reader reader_after writer writer_after fault

-- a legal history of so many entries is told, with status 0, unless a device failed or memory ran out
abbrev pub TellsLegalUnlessDevice : ℕ → Option (List ℕ) → Option (List ℕ) → Result ℕ ServeFault → Type 0
TellsLegalUnlessDevice count old new answer = MatchResult answer (λ status. (status ≡ 0) × Appends old new (legal_line count)) IsNoRefusal

-- .. wherever the reader is known to have a bundle left that is accepted, with the park and the journal
abbrev pub AnswersAcceptedAudit : {R W : Type 0} → ParkOptions → List ℕ → (R → Option (List ℕ)) → Watched R → (W → Option (List ℕ)) → Watched W → Watched W → Result ℕ ServeFault → Type 0
AnswersAcceptedAudit options journal remaining reader contents writer writer_after answer =
    (text : List ℕ) (world : World) → remaining reader.device ≡ Some text → AcceptsSession options text journal true world
    → TellsLegalUnlessDevice (length world.history) (contents writer.device) (contents writer_after.device) answer
