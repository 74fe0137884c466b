-- What a session begins with.
use Rattle.std.proofs.Common.{◌≡◌, ◌∙◌, ◌==◌, ℕ, ◌<◌, ◌≤◌, Bool, true, false, List, [], ◌∷◌, length, Option, refl, sym, ap, subst, arith, eqb-true, true≢false, inl, inr}
use Rattle.std.proofs.lemmas.Bool.{eqb-false}
use Rattle.nd_history.specs.declared.entry.Entry.{Entry}
use Rattle.nd_history.specs.declared.rule.Rule.{Rule}
use Rattle.nd_history.specs.Premises.{Premises}
use Rattle.nd_ledger.specs.Worlds.{World}
use Rattle.nd_journal.specs.WholeLines.{whole_lines}
use Rattle.nd_journal.proofs.Reading.{not_empty}
use Rattle.nd_serve_command.specs.Resumes.{IsResumable, IsResumeRefused}
use Rattle.nd_serve_command.specs.declared.resume_error.ResumeError.{ResumeError}
use Rattle.nd_serve_command.specs.declared.resume_error.ResumeError.TheVariants.{BadLine, Illegal, Memory as NoRoom}
use Rattle.nd_serve_command.specs.Crashes.{IsBegunWith}
use Rattle.nd_serve_command.proofs.Begins.{journals_begin}
use Rattle.nd_serve_command.specs.Faults.{fault_of_journal}
use Rattle.nd_cli.specs.declared.options.ParkOptions.{ParkOptions}
use Rattle.nd_cli.specs.declared.fault.Place.{Place}
use Rattle.nd_cli.specs.declared.fault.CliFault.TheVariants.{TooLarge}
use Rattle.nd_commands.specs.Opened.{HasInputs, ReadsInputs}
use Rattle.nd_devices.specs.Watched.{Watched}
use Rattle.nd_serve_command.specs.Sessions.{journal_limit, MayHold, HoldsSome, IsUntaken, IsJournalFault, BeginsSession, IsOpenFault}
use Rattle.nd_serve_command.specs.declared.fault.ServeFault.{ServeFault}
use Rattle.nd_serve_command.specs.declared.fault.ServeFault.TheVariants.{Cli, NotEmpty, InUse, Journal, JournalFailed}

pub may_resume : (resumes : Bool) (journal : List ℕ) → resumes ≡ true → length journal ≤ journal_limit → MayHold resumes journal
may_resume true journal same within = within
may_resume false journal same within = absurd (true≢false (sym same))

pub too_long : (resumes : Bool) (journal : List ℕ) → resumes ≡ true → journal_limit < length journal → IsUntaken journal resumes (TooLarge Place.History)
too_long resumes journal same long = inl (refl, (same, long))

pub may_be_new : (resumes : Bool) (journal : List ℕ) (none : Bool) → none ≡ (length journal == 0) → none ≡ true → resumes ≡ false → MayHold resumes journal
may_be_new true journal none is h same = absurd (true≢false same)
may_be_new false [] none is h same = refl
may_be_new false (b ∷ journal) none is h same =
    let nothing : length (b ∷ journal) ≡ 0 = eqb-true (length (b ∷ journal)) 0 (sym is ∙ h) in absurd (omega arith)

some_held : (journal : List ℕ) → (length journal == 0) ≡ false → 0 < length journal
some_held [] h = absurd (eqb-false 0 0 h refl)
some_held (b ∷ journal) h = omega arith

pub holds_some : (resumes : Bool) (journal : List ℕ) (none : Bool) → none ≡ (length journal == 0) → none ≡ false → resumes ≡ false → HoldsSome resumes journal
holds_some resumes journal none is h same = (same, some_held journal (sym is ∙ h))

-- .. and such a journal isn't one that may be begun with
pub long_not_within : (resumes : Bool) (journal : List ℕ) → resumes ≡ true → journal_limit < length journal → MayHold resumes journal → ⊥
long_not_within true journal same long within = omega arith
long_not_within false journal same long none = true≢false (sym same)

pub held_not_new : (resumes : Bool) (journal : List ℕ) (none : Bool) → none ≡ (length journal == 0) → none ≡ false → resumes ≡ false → MayHold resumes journal → ⊥
held_not_new true journal none is h same within = true≢false same
held_not_new false journal none is h same new = let some : 0 < length journal = some_held journal (sym is ∙ h) in let nothing : length journal ≡ 0 = ap length new in omega arith

pub ruleset beginnings = (may_resume, too_long, may_be_new, holds_some, long_not_within, held_not_new)

-- ---- what the journal holds then

pub journal_begun : (i j : Premises) (journal : List ℕ) (history : List Entry) (kept : ℕ) → j ≡ i → IsResumable i journal history → kept ≡ length (whole_lines journal)
    → IsBegunWith j (kept == 0) (whole_lines journal) history
journal_begun i j journal history kept inputs resumable is =
    subst (λ (n : ℕ). IsBegunWith j (n == 0) (whole_lines journal) history) (sym is)
    (journals_begin j journal history (subst (λ (p : Premises). IsResumable p journal history) (sym inputs) resumable))

-- .. nothing, before it has a line
pub unbegun_none : (i : Premises) (journal : List ℕ) (history : List Entry) (kept : ℕ) → IsResumable i journal history → kept ≡ length (whole_lines journal) → kept ≡ 0 → length history ≡ 0
unbegun_none i journal history kept resumable is none = elim resumable.read [
  | inl nothing ↦ ap length nothing.empty
  | inr text ↦ absurd (not_empty journal (whole_lines journal) history refl (sym is ∙ none) text)
]

-- ---- why a journal isn't begun with

bad_line : (number : ℕ) → BadLine number ≡ NoRoom → ⊥
bad_line number same = cc

illegal : (index : ℕ) (rule : Rule) → Illegal index rule ≡ NoRoom → ⊥
illegal index rule same = cc

pub journal_refused : (i : Premises) (journal : List ℕ) (resumes : Bool) (e : ResumeError) → MayHold resumes journal → IsResumeRefused i journal e
    → IsJournalFault i journal resumes (fault_of_journal e)
journal_refused i journal resumes (BadLine number) may refused = (may, bad_line number, refused)
journal_refused i journal resumes (Illegal index rule) may refused = (may, illegal index rule, refused)
journal_refused i journal resumes NoRoom may refused = inr (refl, may)

pub fault_refused : (i : Premises) (journal : List ℕ) (resumes : Bool) (e : ResumeError) (fault : ServeFault) → MayHold resumes journal → IsResumeRefused i journal e
    → fault ≡ fault_of_journal e → IsJournalFault i journal resumes fault
fault_refused i journal resumes e fault may refused same = subst (IsJournalFault i journal resumes) (sym same) (journal_refused i journal resumes e may refused)

-- ---- two dispatches with the same inputs and the same history are one

pub same_world : (one other : World) → one.inputs ≡ other.inputs → one.history ≡ other.history → one ≡ other
same_world one other inputs history = λ j. record { inputs = inputs j; history = history j }

-- ---- a session begins, or its journal is refused

pub session_begun : (options : ParkOptions) (journal : List ℕ) (resumes : Bool) (unread left : Option (List ℕ)) (i : Premises) (world : World) → ReadsInputs options unread left i → world.inputs ≡ i
    → MayHold resumes journal → IsResumable i journal world.history → BeginsSession options journal resumes unread left world
session_begun options journal resumes unread left i world reads same may resumable = record {
  text = reads.text;
  read = reads.read;
  accepts = record {
    inputs = subst (HasInputs options reads.text) (sym same) reads.has;
    may = may;
    history = subst (λ (p : Premises). IsResumable p journal world.history) (sym same) resumable;
  };
}

pub session_refused : {R : Type 0} (options : ParkOptions) (journal : List ℕ) (resumes : Bool) (remaining : R → Option (List ℕ)) (reader reader_after : Watched R) (i : Premises) (fault : ServeFault)
    → ReadsInputs options (remaining reader.device) (remaining reader_after.device) i → IsJournalFault i journal resumes fault → IsOpenFault options journal resumes remaining reader reader_after fault
session_refused options journal resumes remaining reader reader_after i (Cli fault) reads refused = inr (record { inputs = i; reads = reads; refused = refused })
session_refused options journal resumes remaining reader reader_after i NotEmpty reads refused = record { inputs = i; reads = reads; refused = refused }
session_refused options journal resumes remaining reader reader_after i InUse reads refused = refused
session_refused options journal resumes remaining reader reader_after i (Journal e) reads refused = record { inputs = i; reads = reads; refused = refused }
session_refused options journal resumes remaining reader reader_after i JournalFailed reads refused = refused
