-- What is answered of a journal. A clause of a function of the program cites this.
use Rattle.std.specs.Prelude.{ℕ, List, Option}
use Rattle.nd_cli.specs.declared.options.ParkOptions.{ParkOptions}
use Rattle.nd_devices.specs.Watched.{Watched}
use Rattle.nd_kept_run.specs.Audited.{AuditsJournal, IsAuditFault}
use Rattle.nd_kept_run.specs.Reported.{IsReportFault, ReportsJournal}
use Rattle.nd_serve_command.specs.declared.fault.ServeFault.{ServeFault}
use Rattle.nix_dispatch.specs.declared.reporting.Question.{Question}
use Rattle.nix_dispatch.specs.declared.reporting.Question.TheVariants.{Report, Audit}

-- the answer to a question, with its status
abbrev pub AnswersAbout : {R W : Type 0} → Question → ParkOptions → List ℕ → ℕ → (R → Option (List ℕ)) → Watched R → Watched R → (W → Option (List ℕ)) → Watched W → Watched W → Type 0
AnswersAbout Report options journal status remaining reader reader_after contents writer writer_after =
    ReportsJournal options journal remaining reader reader_after contents writer writer_after
AnswersAbout Audit options journal status remaining reader reader_after contents writer writer_after =
    AuditsJournal options journal status remaining reader reader_after contents writer writer_after

-- why there is none
abbrev pub IsUnansweredFor : {R W : Type 0} → Question → ParkOptions → List ℕ → (R → Option (List ℕ)) → Watched R → Watched R → (W → Option (List ℕ)) → Watched W → Watched W → ServeFault → Type 0
IsUnansweredFor Report options journal remaining reader reader_after contents writer writer_after =
    IsReportFault options journal remaining reader reader_after contents writer writer_after
IsUnansweredFor Audit options journal remaining reader reader_after contents writer writer_after =
    IsAuditFault options journal remaining reader reader_after contents writer writer_after
