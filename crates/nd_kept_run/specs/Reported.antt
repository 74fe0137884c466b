-- What `report` writes: the report of the history that a journal tells. The contract of `report_engine` cites this. `ReportsTo` and
-- `ReportsPartTo` serve those of private functions too.
use Rattle.std.specs.Prelude.{◌≡◌, ◌⊎◌, ℕ, Bool, true, false, List, reverse, Option, Some, Result, Ok, Err, MatchResult}
use Rattle.nd_cli.specs.Inputs.{is_write_fault}
use Rattle.nd_cli.specs.declared.options.ParkOptions.{ParkOptions}
use Rattle.nd_cli.specs.declared.fault.CliFault.{CliFault}
use Rattle.nd_cli.specs.declared.fault.CliFault.TheVariants.{Write}
use Rattle.nd_devices.specs.Watched.{Watched}
use Rattle.nd_ledger.specs.Worlds.{World}
use Rattle.nd_report.specs.Reports.{Reports, ReportsPart}
use Rattle.nd_serve_command.specs.Sessions.{AcceptsSession, BeginsSession, IsCommon, IsDeviceFault as IsReaderFault, IsOpenFault}
use Rattle.nd_serve_command.specs.declared.fault.ServeFault.{ServeFault}
use Rattle.nd_serve_command.specs.declared.fault.ServeFault.TheVariants.{Cli}

-- the report of this dispatch was written to this writer
abbrev pub ReportsTo : {W : Type 0} → World → (W → Option (List ℕ)) → Watched W → Watched W → Type 0
ReportsTo world contents writer writer_after = Reports world.inputs (reverse world.history) (contents writer.device) (contents writer_after.device)

-- .. or a part of it, from its beginning
abbrev pub ReportsPartTo : {W : Type 0} → World → (W → Option (List ℕ)) → Watched W → Watched W → Type 0
ReportsPartTo world contents writer writer_after = ReportsPart world.inputs (reverse world.history) (contents writer.device) (contents writer_after.device)

-- a dispatch over the bundle that was read whole and the park of the options, with the history that the journal tells, and its report was
-- written
pub record ReportsJournal {R W : Type 0} (options : ParkOptions) (journal : List ℕ) (remaining : R → Option (List ℕ)) (reader reader_after : Watched R) (contents : W → Option (List ℕ)) (writer writer_after : Watched W) : Type 0 where
  pub world : World
  pub begins : BeginsSession options journal true (remaining reader.device) (remaining reader_after.device) world
  pub reports : ReportsTo world contents writer writer_after

-- .. and a part of its report was written, from its beginning
pub record ReportsJournalPart {R W : Type 0} (options : ParkOptions) (journal : List ℕ) (remaining : R → Option (List ℕ)) (reader reader_after : Watched R) (contents : W → Option (List ℕ)) (writer writer_after : Watched W) : Type 0 where
  pub world : World
  pub begins : BeginsSession options journal true (remaining reader.device) (remaining reader_after.device) world
  pub part : ReportsPartTo world contents writer writer_after

-- the writer refused, and a part of the report is out
pub record TearsReport {R W : Type 0} (options : ParkOptions) (journal : List ℕ) (remaining : R → Option (List ℕ)) (reader reader_after : Watched R) (contents : W → Option (List ℕ)) (writer writer_after : Watched W) (fault : ServeFault) : Type 0 where
  pub is : fault ≡ Cli Write
  pub part : ReportsJournalPart options journal remaining reader reader_after contents writer writer_after

-- an input or the journal is refused, the reader failed and is marked, or memory ran out; and the writer is as it was
pub record RefusesReport {R W : Type 0} (options : ParkOptions) (journal : List ℕ) (remaining : R → Option (List ℕ)) (reader reader_after : Watched R) (writer writer_after : Watched W) (fault : ServeFault) : Type 0 where
  pub why : IsOpenFault options journal true remaining reader reader_after fault
  pub untouched : writer_after ≡ writer

-- why there is no status
abbrev pub IsReportFault : {R W : Type 0} → ParkOptions → List ℕ → (R → Option (List ℕ)) → Watched R → Watched R → (W → Option (List ℕ)) → Watched W → Watched W → ServeFault → Type 0
IsReportFault options journal remaining reader reader_after contents writer writer_after fault =
    TearsReport options journal remaining reader reader_after contents writer writer_after fault
    ⊎ RefusesReport options journal remaining reader reader_after writer writer_after fault

-- the answer is the writer's fault
abbrev pub is_unwritten : {A : Type 0} → Result A ServeFault → Bool
is_unwritten (Ok _) = false
is_unwritten (Err (Cli fault)) = is_write_fault fault
is_unwritten (Err _) = false

-- a reader or a writer failed, or memory ran out
abbrev pub IsDeviceFault : CliFault → Type 0
IsDeviceFault Write = Unit {0}
IsDeviceFault fault = IsReaderFault fault

abbrev pub IsNoRefusal : ServeFault → Type 0
IsNoRefusal fault = IsCommon IsDeviceFault fault

-- the report of this dispatch was written, unless a device failed or memory ran out
abbrev pub ReportsUnlessDevice : World → Option (List ℕ) → Option (List ℕ) → Result ℕ ServeFault → Type 0
ReportsUnlessDevice world old new answer = MatchResult answer (λ _. Reports world.inputs (reverse world.history) old new) IsNoRefusal

-- .. wherever the reader is known to have a bundle left that is accepted, with the park and the journal
abbrev pub AnswersAcceptedReport : {R W : Type 0} → ParkOptions → List ℕ → (R → Option (List ℕ)) → Watched R → (W → Option (List ℕ)) → Watched W → Watched W → Result ℕ ServeFault → Type 0
AnswersAcceptedReport options journal remaining reader contents writer writer_after answer =
    (text : List ℕ) (world : World) → remaining reader.device ≡ Some text → AcceptsSession options text journal true world
    → ReportsUnlessDevice world (contents writer.device) (contents writer_after.device) answer
