-- The report of a journal's history.
use Rattle.std.proofs.Common.{◌≡◌, ◌∙◌, ℕ, Bool, true, false, List, reverse, Option, Result, Ok, Err, IfErr, OnOk, OnErr, is_err, refl, sym, ap, subst, arith, true≢false, inl, inr}
use Rattle.std.specs.Io.KnownBytes.{Keeps}
use Rattle.std.proofs.KnownBytes.{Appends-kept}
use Rattle.nd_devices.specs.Watched.{Watched}
use Rattle.nd_devices.proofs.Pieces.{kept_as_part}
use Rattle.nd_history.specs.declared.entry.Entry.{Entry}
use Rattle.nd_history.specs.Premises.{Premises}
use Rattle.nd_history.specs.Standing.{drvs_in}
use Rattle.nd_ledger.specs.Worlds.{World}
use Rattle.nd_report.specs.Reports.{Reports, ReportsPart}
use Rattle.nd_cli.specs.Inputs.{is_write_fault}
use Rattle.nd_cli.specs.declared.options.ParkOptions.{ParkOptions}
use Rattle.nd_cli.specs.declared.fault.CliFault.{CliFault}
use Rattle.nd_cli.specs.declared.fault.CliFault.TheVariants.{Derivation, Drvs, Builders, Info, Script, Stand, History, TooLarge, TooManySlots, Read, Write, Memory, Thread, Receipts}
use Rattle.nd_serve_command.specs.Sessions.{BeginsSession, IsOpenFault, IsNoRefusal, IsUntaken}
use Rattle.nd_serve_command.specs.declared.fault.ServeFault.{ServeFault}
use Rattle.nd_serve_command.specs.declared.fault.ServeFault.TheVariants.{Cli, NotEmpty, InUse, Journal, JournalFailed}
use Rattle.nd_kept_run.specs.Reported.{IsReportFault, ReportsJournal, ReportsUnlessDevice, is_unwritten, IsNoRefusal as IsNoReportRefusal}

-- ---- a writer passes on what it holds back

pub report_kept : (i : Premises) (past : List Entry) (old between new : Option (List ℕ)) → Reports i past old between → Keeps between new → Reports i past old new
report_kept i past old between new whole keeps = record { text = whole.text; is = whole.is; written = Appends-kept old between new whole.text whole.written keeps }

-- all of it is out, if only as a part
pub report_unsent : (i : Premises) (past : List Entry) (old between new : Option (List ℕ)) → Reports i past old between → Keeps between new → ReportsPart i past old new
report_unsent i past old between new whole keeps = record {
  n = drvs_in i;
  some = omega arith;
  text = whole.text;
  is = whole.is;
  written = kept_as_part old between new whole.text whole.written keeps;
}

pub ruleset sending = (report_kept, report_unsent)

-- ---- an input or the journal is refused

untaken_unwritten : (journal : List ℕ) (fault : CliFault) → IsUntaken journal true fault → is_write_fault fault ≡ false
untaken_unwritten journal fault refused = elim refused [
  | inl long ↦ ap is_write_fault long.0
  | inr short ↦ ap is_write_fault short.0
]

-- it is no writer's fault
pub read_unmarked : {R : Type 0} (A : Type 0) (options : ParkOptions) (journal : List ℕ) (remaining : R → Option (List ℕ)) (reader reader_after : Watched R) (fault : ServeFault)
    → IsOpenFault options journal true remaining reader reader_after fault → is_unwritten {A = A} (Err fault) ≡ false
read_unmarked A options journal remaining reader reader_after (Cli (Derivation e)) h = refl
read_unmarked A options journal remaining reader reader_after (Cli (Drvs e)) h = refl
read_unmarked A options journal remaining reader reader_after (Cli (Builders e)) h = refl
read_unmarked A options journal remaining reader reader_after (Cli (Info e)) h = refl
read_unmarked A options journal remaining reader reader_after (Cli (Script e)) h = refl
read_unmarked A options journal remaining reader reader_after (Cli (Stand e)) h = refl
read_unmarked A options journal remaining reader reader_after (Cli (History e)) h = refl
read_unmarked A options journal remaining reader reader_after (Cli (TooLarge place)) h = refl
read_unmarked A options journal remaining reader reader_after (Cli TooManySlots) h = refl
read_unmarked A options journal remaining reader reader_after (Cli Read) h = refl
read_unmarked A options journal remaining reader reader_after (Cli Write) h = elim h [
  | inl marked ↦ absurd (true≢false (sym marked))
  | inr refused ↦ untaken_unwritten journal Write refused.refused
]
read_unmarked A options journal remaining reader reader_after (Cli Memory) h = refl
read_unmarked A options journal remaining reader reader_after (Cli Thread) h = refl
read_unmarked A options journal remaining reader reader_after (Cli Receipts) h = refl
read_unmarked A options journal remaining reader reader_after NotEmpty h = refl
read_unmarked A options journal remaining reader reader_after InUse h = refl
read_unmarked A options journal remaining reader reader_after (Journal e) h = refl
read_unmarked A options journal remaining reader reader_after JournalFailed h = refl

pub no_refusal : (fault : ServeFault) → IsNoRefusal fault → IsNoReportRefusal fault
no_refusal (Cli (Derivation e)) h = h
no_refusal (Cli (Drvs e)) h = h
no_refusal (Cli (Builders e)) h = h
no_refusal (Cli (Info e)) h = h
no_refusal (Cli (Script e)) h = h
no_refusal (Cli (Stand e)) h = h
no_refusal (Cli (History e)) h = h
no_refusal (Cli (TooLarge place)) h = h
no_refusal (Cli TooManySlots) h = h
no_refusal (Cli Read) h = tt
no_refusal (Cli Write) h = tt
no_refusal (Cli Memory) h = tt
no_refusal (Cli Thread) h = h
no_refusal (Cli Receipts) h = h
no_refusal NotEmpty h = h
no_refusal InUse h = h
no_refusal (Journal e) h = h
no_refusal JournalFailed h = h

-- ---- the report of what was opened

pub reported : {R W : Type 0} (options : ParkOptions) (journal : List ℕ) (remaining : R → Option (List ℕ)) (reader reader_after : Watched R) (contents : W → Option (List ℕ)) (writer writer_after : Watched W)
    (world : World) (answer : Result ℕ ServeFault) → BeginsSession options journal true (remaining reader.device) (remaining reader_after.device) world
    → OnOk answer (Reports world.inputs (reverse world.history) (contents writer.device) (contents writer_after.device))
    → OnOk answer (ReportsJournal options journal remaining reader reader_after contents writer writer_after)
reported options journal remaining reader reader_after contents writer writer_after world (Ok status) begins whole = record { world = world; begins = begins; reports = whole }
reported options journal remaining reader reader_after contents writer writer_after world (Err fault) begins whole = tt

pub reported_part : {R W : Type 0} (options : ParkOptions) (journal : List ℕ) (remaining : R → Option (List ℕ)) (reader reader_after : Watched R) (contents : W → Option (List ℕ)) (writer writer_after : Watched W)
    (world : World) (answer : Result ℕ ServeFault) → BeginsSession options journal true (remaining reader.device) (remaining reader_after.device) world
    → OnErr answer (ReportsPart world.inputs (reverse world.history) (contents writer.device) (contents writer_after.device)) → IfErr answer (λ fault. fault ≡ Cli Write)
    → IfErr answer (IsReportFault options journal remaining reader reader_after contents writer writer_after)
reported_part options journal remaining reader reader_after contents writer writer_after world (Ok status) begins part is = tt
reported_part options journal remaining reader reader_after contents writer writer_after world (Err fault) begins part is =
    inl (record { is = is; part = record { world = world; begins = begins; part = part } })

pub report_marked : (answer : Result ℕ ServeFault) (marked : Bool) → IfErr answer (λ fault. fault ≡ Cli Write) → marked ≡ is_err answer → marked ≡ is_unwritten answer
report_marked (Ok status) marked is same = same
report_marked (Err fault) marked is same = same ∙ subst (λ (f : ServeFault). true ≡ is_unwritten {A = ℕ} (Err f)) (sym is) refl

pub reported_same : (opened world : World) (old new : Option (List ℕ)) (answer : Result ℕ ServeFault) → opened ≡ world → OnOk answer (Reports opened.inputs (reverse opened.history) old new)
    → IfErr answer (λ fault. fault ≡ Cli Write) → ReportsUnlessDevice world old new answer
reported_same opened world old new (Ok status) same whole is = subst (λ (w : World). Reports w.inputs (reverse w.history) old new) same whole
reported_same opened world old new (Err fault) same whole is = subst IsNoReportRefusal (sym is) tt
