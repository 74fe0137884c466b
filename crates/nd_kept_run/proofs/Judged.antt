-- The verdict on the history that a journal tells.
use Rattle.std.proofs.Common.{◌≡◌, ◌∙◌, ℕ, Bool, true, List, length, Option, Result, Ok, Err, IfErr, MatchResult, refl, sym, ap, subst, inl, inr}
use Rattle.std.specs.Prelude.{IfOk, OnOk, OnErr}
use Rattle.std.specs.Io.KnownBytes.{Appends}
use Rattle.nd_devices.specs.Watched.{Watched}
use Rattle.nd_devices.specs.Written.{WritesPart}
use Rattle.nd_cli.specs.Inputs.{is_write_fault}
use Rattle.nd_cli.specs.declared.options.ParkOptions.{ParkOptions}
use Rattle.nd_cli.specs.declared.fault.CliFault.{CliFault}
use Rattle.nd_cli.specs.declared.fault.CliFault.TheVariants.{Write}
use Rattle.nd_commands.specs.Audited.{SaysAudit, legal_line, illegal_line}
use Rattle.nd_history.specs.declared.entry.Entry.{Entry}
use Rattle.nd_history.specs.Premises.{Premises}
use Rattle.nd_ledger.specs.Worlds.{World}
use Rattle.nd_serve_command.specs.Sessions.{BeginsSession, IsOpenFault, IsNoRefusal, is_unread}
use Rattle.nd_serve_command.specs.declared.fault.ServeFault.{ServeFault}
use Rattle.nd_serve_command.specs.declared.fault.ServeFault.TheVariants.{Cli, NotEmpty, InUse, Journal, JournalFailed}
use Rattle.nd_serve_command.specs.declared.opened.Opened.{Opened}
use Rattle.nd_serve_command.specs.declared.resume_error.ResumeError.TheVariants.{BadLine, Illegal as IllegalJournal, Memory as NoRoom}
use Rattle.nd_kept_run.specs.Audited.{AuditsJournal, IsAuditFault, IsUnjudged, TellsLegalUnlessDevice}
use Rattle.nd_kept_run.specs.Verdicts.{IsVerdictOn, JudgesJournal, legal_verdict, verdict_of, verdict_status, verdict_text}
use Rattle.nd_kept_run.specs.Reported.{is_unwritten, IsNoRefusal as IsNoAuditRefusal}
use Rattle.nd_kept_run.specs.declared.auditing.Verdict.{Verdict}
use Rattle.nd_kept_run.specs.declared.auditing.Verdict.TheVariants.{Legal, Illegal}
use Rattle.nd_kept_run.proofs.Told.{no_refusal}

-- ---- what was opened

pub legal_judged : (options : ParkOptions) (journal : List ℕ) (unread left : Option (List ℕ)) (world : World) (verdict : Verdict) → BeginsSession options journal true unread left world
    → verdict ≡ legal_verdict world → JudgesJournal options journal unread left verdict
legal_judged options journal unread left world verdict begins is = subst (JudgesJournal options journal unread left) (sym is) (record {
  inputs = world.inputs;
  entries = world.history;
  reads = record {
    inputs = record { text = begins.text; read = begins.read; has = begins.accepts.inputs };
    within = begins.accepts.may;
    read = begins.accepts.history.read;
  };
  on = (begins.accepts.history.legal, refl);
})

pub same_legal : (opened world : World) (verdict : Verdict) → opened ≡ world → verdict ≡ legal_verdict opened → verdict ≡ legal_verdict world
same_legal opened world verdict same is = is ∙ ap legal_verdict same

-- ---- what was refused

judged_of : {R : Type 0} (options : ParkOptions) (journal : List ℕ) (remaining : R → Option (List ℕ)) (reader reader_after : Watched R) (fault : ServeFault)
    → IsOpenFault options journal true remaining reader reader_after fault → IfOk (verdict_of fault) (JudgesJournal options journal (remaining reader.device) (remaining reader_after.device))
judged_of options journal remaining reader reader_after (Cli e) h = tt
judged_of options journal remaining reader reader_after NotEmpty h = tt
judged_of options journal remaining reader reader_after InUse h = tt
judged_of options journal remaining reader reader_after (Journal (BadLine number)) h = tt
judged_of options journal remaining reader reader_after (Journal (IllegalJournal index rule)) h = record {
  inputs = h.inputs;
  entries = h.refused.2.entries;
  reads = record { inputs = h.reads; within = h.refused.0; read = h.refused.2.read };
  on = h.refused.2.illegal;
}
judged_of options journal remaining reader reader_after (Journal NoRoom) h = tt
judged_of options journal remaining reader reader_after JournalFailed h = tt

pub refused_judged : {R : Type 0} (options : ParkOptions) (journal : List ℕ) (remaining : R → Option (List ℕ)) (reader reader_after : Watched R) (fault : ServeFault) (answer : Result Verdict ServeFault)
    → IsOpenFault options journal true remaining reader reader_after fault → answer ≡ verdict_of fault → IfOk answer (JudgesJournal options journal (remaining reader.device) (remaining reader_after.device))
refused_judged options journal remaining reader reader_after fault answer h is =
    subst (λ (r : Result Verdict ServeFault). IfOk r (JudgesJournal options journal (remaining reader.device) (remaining reader_after.device))) (sym is)
    (judged_of options journal remaining reader reader_after fault h)

unjudged_of : {R : Type 0} (options : ParkOptions) (journal : List ℕ) (remaining : R → Option (List ℕ)) (reader reader_after : Watched R) (fault : ServeFault)
    → IsOpenFault options journal true remaining reader reader_after fault → IfErr (verdict_of fault) (IsUnjudged options journal remaining reader reader_after)
unjudged_of options journal remaining reader reader_after (Cli e) h = record { why = h; other = λ index rule same. cc }
unjudged_of options journal remaining reader reader_after NotEmpty h = record { why = h; other = λ index rule same. cc }
unjudged_of options journal remaining reader reader_after InUse h = record { why = h; other = λ index rule same. cc }
unjudged_of options journal remaining reader reader_after (Journal (BadLine number)) h = record { why = h; other = λ index rule same. cc }
unjudged_of options journal remaining reader reader_after (Journal (IllegalJournal index rule)) h = tt
unjudged_of options journal remaining reader reader_after (Journal NoRoom) h = record { why = h; other = λ index rule same. cc }
unjudged_of options journal remaining reader reader_after JournalFailed h = record { why = h; other = λ index rule same. cc }

pub refused_fault : {R : Type 0} (options : ParkOptions) (journal : List ℕ) (remaining : R → Option (List ℕ)) (reader reader_after : Watched R) (fault : ServeFault) (answer : Result Verdict ServeFault)
    → IsOpenFault options journal true remaining reader reader_after fault → answer ≡ verdict_of fault → IfErr answer (IsUnjudged options journal remaining reader reader_after)
refused_fault options journal remaining reader reader_after fault answer h is =
    subst (λ (r : Result Verdict ServeFault). IfErr r (IsUnjudged options journal remaining reader reader_after)) (sym is) (unjudged_of options journal remaining reader reader_after fault h)

unread_of : (fault : ServeFault) → is_unread {A = Opened} (Err fault) ≡ is_unread (verdict_of fault)
unread_of (Cli e) = refl
unread_of NotEmpty = refl
unread_of InUse = refl
unread_of (Journal (BadLine number)) = refl
unread_of (Journal (IllegalJournal index rule)) = refl
unread_of (Journal NoRoom) = refl
unread_of JournalFailed = refl

pub refused_mark : (fault : ServeFault) (answer : Result Verdict ServeFault) (marked : Bool) → marked ≡ is_unread {A = Opened} (Err fault) → answer ≡ verdict_of fault → marked ≡ is_unread answer
refused_mark fault answer marked mark is = mark ∙ unread_of fault ∙ ap is_unread (sym is)

unrefused_of : (fault : ServeFault) (count : ℕ) → IsNoRefusal fault → MatchResult (verdict_of fault) (λ verdict. verdict ≡ Legal count) IsNoAuditRefusal
unrefused_of (Cli e) count h = no_refusal (Cli e) h
unrefused_of NotEmpty count h = absurd h
unrefused_of InUse count h = absurd h
unrefused_of (Journal e) count h = absurd h
unrefused_of JournalFailed count h = absurd h

pub refused_unless : (fault : ServeFault) (answer : Result Verdict ServeFault) (count : ℕ) → IsNoRefusal fault → answer ≡ verdict_of fault
    → MatchResult answer (λ verdict. verdict ≡ Legal count) IsNoAuditRefusal
refused_unless fault answer count h is = subst (λ (r : Result Verdict ServeFault). MatchResult r (λ verdict. verdict ≡ Legal count) IsNoAuditRefusal) (sym is) (unrefused_of fault count h)

-- ---- the verdict that was written

verdict_says : (i : Premises) (entries : List Entry) (verdict : Verdict) (status : ℕ) → IsVerdictOn i entries verdict → status ≡ verdict_status verdict → SaysAudit i entries status (verdict_text verdict)
verdict_says i entries (Legal count) status on is = inl (record { legal = on.0; status_is = is; is = ap legal_line on.1 })
verdict_says i entries (Illegal index rule) status on is = inr (record { index = index; rule = rule; illegal = on; status_is = is; is = refl })

pub audited : {R W : Type 0} (options : ParkOptions) (journal : List ℕ) (remaining : R → Option (List ℕ)) (reader reader_after : Watched R) (contents : W → Option (List ℕ)) (writer writer_after : Watched W) (verdict : Verdict) (status : ℕ)
    → JudgesJournal options journal (remaining reader.device) (remaining reader_after.device) verdict → status ≡ verdict_status verdict
    → Appends (contents writer.device) (contents writer_after.device) (verdict_text verdict) → AuditsJournal options journal status remaining reader reader_after contents writer writer_after
audited options journal remaining reader reader_after contents writer writer_after verdict status judged is written = record {
  inputs = judged.inputs;
  entries = judged.entries;
  reads = judged.reads;
  verdict = record { text = verdict_text verdict; says = verdict_says judged.inputs judged.entries verdict status judged.on is; appended = written };
}

pub audited_answer : {R W : Type 0} (options : ParkOptions) (journal : List ℕ) (remaining : R → Option (List ℕ)) (reader reader_after : Watched R) (contents : W → Option (List ℕ)) (writer writer_after : Watched W) (verdict : Verdict) (answer : Result ℕ ServeFault)
    → JudgesJournal options journal (remaining reader.device) (remaining reader_after.device) verdict → IfOk answer (λ status. status ≡ verdict_status verdict)
    → OnOk answer (Appends (contents writer.device) (contents writer_after.device) (verdict_text verdict))
    → IfOk answer (λ status. AuditsJournal options journal status remaining reader reader_after contents writer writer_after)
audited_answer options journal remaining reader reader_after contents writer writer_after verdict (Ok status) judged is written =
    audited options journal remaining reader reader_after contents writer writer_after verdict status judged is written
audited_answer options journal remaining reader reader_after contents writer writer_after verdict (Err fault) judged is written = tt

-- .. or the writer refused
pub torn_answer : {R W : Type 0} (options : ParkOptions) (journal : List ℕ) (remaining : R → Option (List ℕ)) (reader reader_after : Watched R) (contents : W → Option (List ℕ)) (writer writer_after : Watched W) (verdict : Verdict) (answer : Result ℕ ServeFault)
    → JudgesJournal options journal (remaining reader.device) (remaining reader_after.device) verdict → IfErr answer (λ fault. fault ≡ Cli Write)
    → OnErr answer (WritesPart (contents writer.device) (contents writer_after.device) (verdict_text verdict))
    → IfErr answer (IsAuditFault options journal remaining reader reader_after contents writer writer_after)
torn_answer options journal remaining reader reader_after contents writer writer_after verdict (Ok status) judged is part = tt
torn_answer options journal remaining reader reader_after contents writer writer_after verdict (Err fault) judged is part = inl (record {
  is = is;
  inputs = judged.inputs;
  entries = judged.entries;
  reads = judged.reads;
  part = record {
    status = verdict_status verdict;
    text = verdict_text verdict;
    says = verdict_says judged.inputs judged.entries verdict (verdict_status verdict) judged.on refl;
    part = part;
  };
})

-- a legal history is told as one, unless the writer refused
pub told_answer : (verdict : Verdict) (count : ℕ) (old new : Option (List ℕ)) (answer : Result ℕ ServeFault) → verdict ≡ Legal count → IfOk answer (λ status. status ≡ verdict_status verdict)
    → OnOk answer (Appends old new (verdict_text verdict)) → IfErr answer (λ fault. fault ≡ Cli Write) → TellsLegalUnlessDevice count old new answer
told_answer verdict count old new (Ok status) same is written fault = (is ∙ ap verdict_status same, subst (λ (v : Verdict). Appends old new (verdict_text v)) same written)
told_answer verdict count old new (Err e) same is written fault = subst IsNoAuditRefusal (sym fault) tt

pub ruleset judgements = (legal_judged, same_legal, refused_judged, refused_fault, refused_mark, refused_unless)
