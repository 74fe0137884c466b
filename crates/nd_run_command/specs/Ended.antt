-- What is written at the end of a run: the history of the dispatch that came back, and where it was asked for the report. The
-- contract of `run_engine` cites it by way of `RunsTo` and `IsRunFault`, but for `IsToldOf`, which serves proofs.
use Rattle.std.specs.Prelude.{◌≡◌, ◌⊎◌, ℕ, Bool, true, false, List, Option, Some, None, reverse}
use Rattle.std.specs.Io.KnownBytes.{Appends, Keeps}
use Rattle.nd_devices.specs.Written.{WritesPart}
use Rattle.nd_history.specs.Statuses.{IsExitStatus}
use Rattle.nd_ledger.specs.Worlds.{World}
use Rattle.nd_cli.specs.declared.fault.CliFault.{CliFault}
use Rattle.nd_workers.specs.declared.run_end.RunFault.{RunFault}
use Rattle.nd_workers.specs.declared.run_end.RunFault.TheVariants.{Thread, Memory, Receipts, Journal}
use Rattle.nd_history_text.specs.HistoryTexts.{written_text}
use Rattle.nd_report.specs.Reports.{Reports, ReportsPart}

-- the report follows where it was asked for, and else nothing
abbrev pub ReportsIf : Bool → World → Option (List ℕ) → Option (List ℕ) → Type 0
ReportsIf true w old new = Reports w.inputs (reverse w.history) old new
ReportsIf false w old new = Keeps old new

-- .. or a part of it, from its beginning
abbrev pub ReportsPartIf : Bool → World → Option (List ℕ) → Option (List ℕ) → Type 0
ReportsPartIf true w old new = ReportsPart w.inputs (reverse w.history) old new
ReportsPartIf false w old new = ⊥

-- the history's text was written, and then the report where it was asked for
pub record WritesEnd (w : World) (report : Bool) (old new : Option (List ℕ)) : Type 0 where
  pub between : Option (List ℕ)
  pub history : Appends old between (written_text w.history)
  pub reports : ReportsIf report w between new

-- the history's text was written, and a part of the report
pub record WritesReportPart (w : World) (report : Bool) (old new : Option (List ℕ)) : Type 0 where
  pub between : Option (List ℕ)
  pub history : Appends old between (written_text w.history)
  pub part : ReportsPartIf report w between new

-- a writer that refused took a part, from its beginning: of the history's text, or that and a part of the report, or all
abbrev pub WritesEndPart : World → Bool → Option (List ℕ) → Option (List ℕ) → Type 0
WritesEndPart w report old new = WritesPart old new (written_text w.history) ⊎ (WritesReportPart w report old new ⊎ WritesEnd w report old new)

-- the status: 1 where a derivation failed or was cancelled
abbrev pub IsStatusOf : World → ℕ → Type 0
IsStatusOf w status = IsExitStatus w.inputs (reverse w.history) status

-- what the program says of a run's fault, where the run keeps no journal
abbrev pub IsToldOf : Option RunFault → CliFault → Type 0
IsToldOf None e = ⊥
IsToldOf (Some Thread) e = e ≡ CliFault.Thread
IsToldOf (Some Memory) e = e ≡ CliFault.Memory
IsToldOf (Some Receipts) e = e ≡ CliFault.Receipts
IsToldOf (Some Journal) e = ⊥
