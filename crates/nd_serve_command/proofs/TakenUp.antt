-- The history of a journal.
use Rattle.std.proofs.Common.{◌≡◌, ◌∙◌, ℕ, List, [], ◌++◌, reverse, refl, sym, ap, subst}
use Rattle.nd_history.specs.declared.entry.Entry.{Entry}
use Rattle.nd_history.specs.declared.rule.Rule.{Rule}
use Rattle.nd_history.specs.Premises.{Premises}
use Rattle.nd_history.specs.Legal.{IsLegal}
use Rattle.nd_ledger.specs.Worlds.{World}
use Rattle.nd_report.specs.Audits.{IsFirstUnadmitted}
use Rattle.nd_report.specs.declared.audit_error.AuditError.TheVariants.{Illegal as NotAllowed}
use Rattle.nd_report.proofs.Admitting.{none_illegal}
use Rattle.nd_report.proofs.Admissions.{audit_refused}
use Rattle.nd_journal.specs.JournalTexts.{IsReadAs, IsJournalRefused}
use Rattle.nd_journal.specs.declared.journal.JournalError.{JournalError}
use Rattle.nd_journal.specs.declared.journal.JournalError.TheVariants.{BadLine as BadJournalLine, Memory as NoRoom}
use Rattle.nd_journal.proofs.OneAnswer.{read_once, not_refused}
use Rattle.nd_serve_command.specs.Resumes.{IsResumable, IsIllegalJournal, IsResumeRefused, journal_refusal}
use Rattle.nd_serve_command.specs.declared.resume_error.ResumeError.{ResumeError}
use Rattle.nd_serve_command.specs.declared.resume_error.ResumeError.TheVariants.{BadLine, Illegal, Memory}

-- entries that a dispatch with no history took in are those of its history
all_taken : (earlier later : World) (entries : List Entry) → earlier.history ≡ [] → later.history ≡ earlier.history ++ entries → later.history ≡ entries
all_taken earlier later entries none history = history ∙ ap (λ (l : List Entry). l ++ entries) none

pub history_resumed : (bytes : List ℕ) (earlier later : World) (entries : List Entry) → IsReadAs bytes entries → earlier.history ≡ [] → later.history ≡ earlier.history ++ entries
    → IsLegal earlier.inputs (reverse (earlier.history ++ entries)) → IsResumable earlier.inputs bytes later.history
history_resumed bytes earlier later entries read none history legal = record {
  read = subst (IsReadAs bytes) (sym (all_taken earlier later entries none history)) read;
  legal = subst (λ (l : List Entry). IsLegal earlier.inputs (reverse l)) (sym history) legal;
}

pub journal_illegal : (bytes : List ℕ) (earlier later : World) (entries : List Entry) (index : ℕ) (rule : Rule) → IsReadAs bytes entries → earlier.history ≡ []
    → IsFirstUnadmitted earlier later entries index rule → IsIllegalJournal earlier.inputs bytes index rule
journal_illegal bytes earlier later entries index rule read none illegal = record {
  entries = entries;
  read = read;
  illegal = audit_refused earlier.inputs earlier later entries refl none (NotAllowed index rule) illegal;
}

refused_as : (i : Premises) (bytes : List ℕ) (error : JournalError) → IsJournalRefused bytes error → IsResumeRefused i bytes (journal_refusal error)
refused_as i bytes (BadJournalLine number) refused = refused
refused_as i bytes NoRoom refused = tt

pub unread_refused : (i : Premises) (bytes : List ℕ) (error : JournalError) (e : ResumeError) → IsJournalRefused bytes error → e ≡ journal_refusal error → IsResumeRefused i bytes e
unread_refused i bytes error e refused is = subst (IsResumeRefused i bytes) (sym is) (refused_as i bytes error refused)

-- ---- a journal that can be gone on from

pub same_history : (i : Premises) (bytes : List ℕ) (entries others : List Entry) → IsResumable i bytes entries → IsResumable i bytes others → entries ≡ others
same_history i bytes entries others one other = read_once bytes entries others one.read other.read

pub no_refusal : (i : Premises) (bytes : List ℕ) (entries : List Entry) (e : ResumeError) → IsResumable i bytes entries → IsResumeRefused i bytes e → e ≡ Memory
no_refusal i bytes entries (BadLine number) h refused = absurd (not_refused bytes entries number h.read refused)
no_refusal i bytes entries (Illegal index rule) h refused =
    absurd (none_illegal i refused.entries index rule refused.illegal
    (subst (λ (l : List Entry). IsLegal i (reverse l)) (read_once bytes entries refused.entries h.read refused.read) h.legal))
no_refusal i bytes entries Memory h refused = refl

-- .. so none of its entries is illegal
pub illegal_alone : (bytes : List ℕ) (earlier later : World) (entries others : List Entry) (index : ℕ) (rule : Rule) → IsReadAs bytes entries → earlier.history ≡ []
    → IsFirstUnadmitted earlier later entries index rule → IsResumable earlier.inputs bytes others → Illegal index rule ≡ Memory
illegal_alone bytes earlier later entries others index rule read none illegal h =
    no_refusal earlier.inputs bytes others (Illegal index rule) h (journal_illegal bytes earlier later entries index rule read none illegal)

pub ruleset resumings = (history_resumed, journal_illegal, unread_refused, illegal_alone)
