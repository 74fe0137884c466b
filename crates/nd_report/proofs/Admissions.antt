-- Entries that are admitted one after another behind the history of a dispatch.
use Rattle.std.proofs.Common.{◌≡◌, ◌∙◌, ℕ, ◌+◌, List, [], ◌∷◌, ◌++◌, length, reverse, refl, sym, ap, subst, arith, append_assoc, length-append, inl, inr}
use Rattle.std.proofs.lemmas.List.{append-nil}
use Rattle.nd_history.specs.declared.entry.Entry.{Entry}
use Rattle.nd_history.specs.declared.rule.Rule.{Rule}
use Rattle.nd_history.specs.Premises.{Premises}
use Rattle.nd_history.specs.Legal.{IsLegal, IsAllowed}
use Rattle.nd_history.specs.Audit.{IsFirstRule}
use Rattle.nd_ledger.specs.Worlds.{World}
use Rattle.nd_ledger.specs.Admitting.{IsAdmitRefused}
use Rattle.nd_audit.specs.Judging.{IsNotAdmitted}
use Rattle.nd_audit.specs.declared.judging.Unadmitted.{Unadmitted}
use Rattle.nd_ledger.specs.declared.refusal.AdmitError.{AdmitError}
use Rattle.nd_ledger.specs.declared.refusal.AdmitError.TheVariants.{Illegal as Refused, Memory as NoMemory}
use Rattle.nd_report.specs.declared.audit_error.AuditError.{AuditError}
use Rattle.nd_report.specs.declared.audit_error.AuditError.TheVariants.{Illegal, Memory}
use Rattle.nd_report.specs.Audits.{IsFirstIllegal, IsAuditRefused, IsFirstUnadmitted, AreAdmittedInPart, IsAdmissionRefused, IsRefusedAt, answer_at}
use Rattle.nd_report.proofs.Admitting.{turned, grown, none_illegal}

-- a dispatch went on from an earlier one by admitting these n entries
pub record HasAdmitted (earlier : World) (seen : List Entry) (world : World) (n : ℕ) : Type 0 where
  pub inputs : world.inputs ≡ earlier.inputs
  pub same : world.history ≡ earlier.history ++ seen
  pub place : n ≡ length seen
  pub legal : IsLegal earlier.inputs (reverse world.history)

pub nothing_admitted : (earlier : World) → IsLegal earlier.inputs (reverse earlier.history) → HasAdmitted earlier [] earlier 0
nothing_admitted earlier legal = record { inputs = refl; same = sym (append-nil earlier.history); place = refl; legal = legal }

pub one_more : (earlier : World) (seen : List Entry) (world new : World) (n : ℕ) (e : Entry) → HasAdmitted earlier seen world n
    → new ≡ record world { history = world.history ++ e ∷ [] } → IsAllowed world.inputs e (reverse world.history) → HasAdmitted earlier (seen ++ e ∷ []) new (n + 1)
one_more earlier seen world new n e h more allowed =
    let here : IsAllowed earlier.inputs e (reverse world.history) = subst (λ (j : Premises). IsAllowed j e (reverse world.history)) h.inputs allowed in
    let both : IsLegal earlier.inputs (e ∷ reverse world.history) = (here, h.legal) in
    record {
      inputs = ap (λ (w : World). w.inputs) more ∙ h.inputs;
      same = grown world new e more ∙ ap (λ (l : List Entry). l ++ e ∷ []) h.same ∙ append_assoc earlier.history seen (e ∷ []);
      place = omega (arith, h.place, length-append seen (e ∷ []));
      legal = subst (IsLegal earlier.inputs) (sym (ap reverse (grown world new e more) ∙ turned world.history e [])) both;
    }

pub all_same : (earlier : World) (entries seen : List Entry) (world : World) (n : ℕ) → HasAdmitted earlier seen world n → entries ≡ seen → world.history ≡ earlier.history ++ entries
all_same earlier entries seen world n h all = h.same ∙ ap (λ (l : List Entry). earlier.history ++ l) (sym all)

pub all_legal : (earlier : World) (entries seen : List Entry) (world : World) (n : ℕ) → HasAdmitted earlier seen world n → entries ≡ seen
    → IsLegal earlier.inputs (reverse (earlier.history ++ entries))
all_legal earlier entries seen world n h all = subst (λ (l : List Entry). IsLegal earlier.inputs (reverse l)) (all_same earlier entries seen world n h all) h.legal

pub first_refused : (earlier : World) (entries seen after : List Entry) (world : World) (n : ℕ) (e : Entry) (rule : Rule) → HasAdmitted earlier seen world n
    → entries ≡ seen ++ e ∷ after → IsFirstRule world.inputs (reverse world.history) e rule → IsFirstUnadmitted earlier world entries n rule
first_refused earlier entries seen after world n e rule h whole refused = record {
  before = seen;
  entry = e;
  after = after;
  whole = whole;
  place = h.place;
  history = h.same;
  legal = h.legal;
  refused = subst (λ (j : Premises). IsFirstRule j (reverse world.history) e rule) h.inputs refused;
}

-- the entry that isn't admitted is the first of the whole history that isn't allowed
first_of_all : (earlier later : World) (entries : List Entry) (n : ℕ) (rule : Rule) → (h : IsFirstUnadmitted earlier later entries n rule)
    → IsFirstIllegal earlier.inputs (earlier.history ++ entries) (length later.history) rule
first_of_all earlier later entries n rule h = record {
  before = later.history;
  entry = h.entry;
  after = h.after;
  whole =
      ap (λ (l : List Entry). earlier.history ++ l) h.whole ∙ sym (append_assoc earlier.history h.before (h.entry ∷ h.after))
      ∙ ap (λ (l : List Entry). l ++ h.entry ∷ h.after) (sym h.history);
  place = refl;
  legal = h.legal;
  refused = h.refused;
}

answer_right : (earlier : World) (entries seen after : List Entry) (world : World) (n : ℕ) (e : Entry) (fault : AdmitError) → HasAdmitted earlier seen world n
    → entries ≡ seen ++ e ∷ after → IsAdmitRefused world.inputs (reverse world.history) e fault → IsAdmissionRefused earlier entries world (answer_at n fault)
answer_right earlier entries seen after world n e (Refused rule) h whole refused = first_refused earlier entries seen after world n e rule h whole refused
answer_right earlier entries seen after world n e NoMemory h whole refused = record { before = seen; after = e ∷ after; whole = whole; history = h.same; legal = h.legal }

pub refused_there : (i : Premises) (past : List Entry) (e : Entry) (index : ℕ) (fault : AdmitError) (answer : AuditError) → IsAdmitRefused i past e fault
    → answer ≡ answer_at index fault → IsRefusedAt i past e index answer
refused_there i past e index fault answer refused is = record { fault = fault; refused = refused; is = is }

-- the answer about an entry that isn't admitted
pub entry_refused : (earlier : World) (entries seen after : List Entry) (world later : World) (n : ℕ) (e : Entry) (answer : AuditError) → HasAdmitted earlier seen world n
    → entries ≡ seen ++ e ∷ after → IsRefusedAt world.inputs (reverse world.history) e n answer → later ≡ world → IsAdmissionRefused earlier entries later answer
entry_refused earlier entries seen after world later n e answer h whole refused stays =
    subst (λ (w : World). IsAdmissionRefused earlier entries w answer) (sym stays)
    (subst (IsAdmissionRefused earlier entries world) (sym refused.is) (answer_right earlier entries seen after world n e refused.fault h whole refused.refused))

-- .. where all of them are allowed
memory_alone : (earlier : World) (entries : List Entry) (later : World) (answer : AuditError) → IsAdmissionRefused earlier entries later answer
    → IsLegal earlier.inputs (reverse (earlier.history ++ entries)) → answer ≡ Memory
memory_alone earlier entries later (Illegal index rule) h legal =
    absurd (none_illegal earlier.inputs (earlier.history ++ entries) (length later.history) rule (first_of_all earlier later entries index rule h) legal)
memory_alone earlier entries later Memory h legal = refl

pub memory_at : (earlier : World) (entries seen after : List Entry) (world : World) (n : ℕ) (e : Entry) (answer : AuditError) → HasAdmitted earlier seen world n
    → entries ≡ seen ++ e ∷ after → IsRefusedAt world.inputs (reverse world.history) e n answer → IsLegal earlier.inputs (reverse (earlier.history ++ entries)) → answer ≡ Memory
memory_at earlier entries seen after world n e answer h whole refused legal =
    memory_alone earlier entries world answer (entry_refused earlier entries seen after world world n e answer h whole refused refl) legal

pub ruleset admissions = (nothing_admitted, one_more, all_same, all_legal, entry_refused, memory_at)

-- ---- an audit: the admission of entries to a dispatch with the empty history

pub audit_legal : (i : Premises) (earlier : World) (entries : List Entry) → earlier.inputs ≡ i → earlier.history ≡ []
    → IsLegal earlier.inputs (reverse (earlier.history ++ entries)) → IsLegal i (reverse entries)
audit_legal i earlier entries inputs none legal =
    subst (λ (l : List Entry). IsLegal i (reverse (l ++ entries))) none (subst (λ (j : Premises). IsLegal j (reverse (earlier.history ++ entries))) inputs legal)

pub audit_whole : (i : Premises) (earlier : World) (entries : List Entry) → earlier.inputs ≡ i → earlier.history ≡ []
    → IsLegal i (reverse entries) → IsLegal earlier.inputs (reverse (earlier.history ++ entries))
audit_whole i earlier entries inputs none legal =
    subst (λ (j : Premises). IsLegal j (reverse (earlier.history ++ entries))) (sym inputs) (subst (λ (l : List Entry). IsLegal i (reverse (l ++ entries))) (sym none) legal)

pub audit_refused : (i : Premises) (earlier later : World) (entries : List Entry) → earlier.inputs ≡ i → earlier.history ≡ [] → (answer : AuditError)
    → IsAdmissionRefused earlier entries later answer → IsAuditRefused i entries answer
audit_refused i earlier later entries inputs none (Illegal index rule) h =
    let first : later.history ≡ h.before = h.history ∙ ap (λ (l : List Entry). l ++ h.before) none in
    record {
      before = h.before;
      entry = h.entry;
      after = h.after;
      whole = h.whole;
      place = h.place;
      legal = subst (λ (j : Premises). IsLegal j (reverse h.before)) inputs (subst (λ (l : List Entry). IsLegal earlier.inputs (reverse l)) first h.legal);
      refused =
          subst (λ (j : Premises). IsFirstRule j (reverse h.before) h.entry rule) inputs
          (subst (λ (l : List Entry). IsFirstRule earlier.inputs (reverse l) h.entry rule) first h.refused);
    }
audit_refused i earlier later entries inputs none Memory h = tt

-- ---- an audit by two threads

beside_right : (i : Premises) (entries : List Entry) (u : Unadmitted) (error : AdmitError) → u.error ≡ error → IsNotAdmitted i entries u → IsAuditRefused i entries (answer_at u.index error)
beside_right i entries u (Refused rule) is h = elim h [
  | inl first ↦ record {
    before = first.before;
    entry = first.entry;
    after = first.after;
    whole = first.whole;
    place = first.place;
    legal = first.legal;
    refused = subst (λ (x : AdmitError). IsAdmitRefused i (reverse first.before) first.entry x) is first.refused;
  }
  | inr short ↦ (let no_way : ⊥ = cc in absurd no_way)
]
beside_right i entries u NoMemory is h = tt

-- what is refused beside another thread is refused so by an audit
pub beside_refused : (i : Premises) (entries : List Entry) (u : Unadmitted) (answer : AuditError) → IsNotAdmitted i entries u → answer ≡ answer_at u.index u.error → IsAuditRefused i entries answer
beside_refused i entries u answer h is = subst (IsAuditRefused i entries) (sym is) (beside_right i entries u u.error refl h)

-- .. and a legal history only for want of memory
pub refused_alone : (i : Premises) (entries : List Entry) (answer : AuditError) → IsAuditRefused i entries answer → IsLegal i (reverse entries) → answer ≡ Memory
refused_alone i entries (Illegal index rule) h legal = absurd (none_illegal i entries index rule h legal)
refused_alone i entries Memory h legal = refl
