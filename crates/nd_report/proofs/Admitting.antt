-- A history that is admitted entry by entry.
use Rattle.std.proofs.Common.{◌≡◌, ◌∙◌, ℕ, ◌+◌, List, [], ◌∷◌, ◌++◌, length, reverse, refl, sym, ap, subst, arith, append_assoc, length-append}
use Rattle.std.proofs.lemmas.List.{reverse-append}
use Rattle.nd_history.proofs.Turned.{reverse_cons}
use Rattle.nd_history.specs.declared.entry.Entry.{Entry}
use Rattle.nd_history.specs.declared.rule.Rule.{Rule}
use Rattle.nd_history.specs.Premises.{Premises}
use Rattle.nd_history.specs.Legal.{IsLegal, IsAllowed}
use Rattle.nd_history.specs.Audit.{IsFirstRule}
use Rattle.nd_ledger.specs.Worlds.{World}
use Rattle.nd_history.proofs.Legality.{allowed_at}
use Rattle.nd_history.proofs.Rules.{rules_decide}
use Rattle.nd_ledger.specs.Admitting.{IsAdmitRefused}
use Rattle.nd_ledger.specs.declared.refusal.AdmitError.{AdmitError}
use Rattle.nd_ledger.specs.declared.refusal.AdmitError.TheVariants.{Illegal as Refused, Memory as NoMemory}
use Rattle.nd_report.specs.declared.audit_error.AuditError.{AuditError}
use Rattle.nd_report.specs.Audits.{IsFirstIllegal, IsAuditRefused, answer_at}

-- a dispatch has these inputs, and admitted these n entries
pub record IsAdmitted (i : Premises) (seen : List Entry) (world : World) (n : ℕ) : Type 0 where
  pub inputs : world.inputs ≡ i
  pub same : world.history ≡ seen
  pub place : n ≡ length seen
  pub legal : IsLegal i (reverse world.history)

pub turned : (before : List Entry) (e : Entry) (after : List Entry) → reverse (before ++ e ∷ after) ≡ reverse after ++ e ∷ reverse before
turned before e after =
    reverse-append before (e ∷ after) ∙ ap (λ (l : List Entry). l ++ reverse before) (reverse_cons e after) ∙ append_assoc (reverse after) (e ∷ []) (reverse before)

pub none_admitted : (i : Premises) (world : World) → world.inputs ≡ i → world.history ≡ [] → IsAdmitted i [] world 0
none_admitted i world inputs none = record { inputs = inputs; same = none; place = refl; legal = subst (λ (l : List Entry). IsLegal i (reverse l)) (sym none) tt }

pub grown : (world new : World) (e : Entry) → new ≡ record world { history = world.history ++ e ∷ [] } → new.history ≡ world.history ++ e ∷ []
grown world new e h = ap (λ (w : World). w.history) h

pub one_admitted : (i : Premises) (seen : List Entry) (world new : World) (n : ℕ) (e : Entry) → IsAdmitted i seen world n
    → new ≡ record world { history = world.history ++ e ∷ [] } → IsAllowed world.inputs e (reverse world.history) → IsAdmitted i (seen ++ e ∷ []) new (n + 1)
one_admitted i seen world new n e h more allowed =
    let here : IsAllowed i e (reverse world.history) = subst (λ (j : Premises). IsAllowed j e (reverse world.history)) h.inputs allowed in
    let both : IsLegal i (e ∷ reverse world.history) = (here, h.legal) in
    record {
      inputs = ap (λ (w : World). w.inputs) more ∙ h.inputs;
      same = grown world new e more ∙ ap (λ (l : List Entry). l ++ e ∷ []) h.same;
      place = omega (arith, h.place, length-append seen (e ∷ []));
      legal = subst (IsLegal i) (sym (ap reverse (grown world new e more) ∙ turned world.history e [])) both;
    }

pub all_admitted : (i : Premises) (entries seen : List Entry) (world : World) (n : ℕ) → IsAdmitted i seen world n → entries ≡ seen → IsLegal i (reverse entries)
all_admitted i entries seen world n h all = subst (λ (l : List Entry). IsLegal i (reverse l)) (h.same ∙ sym all) h.legal

pub one_refused : (i : Premises) (entries seen after : List Entry) (world : World) (n : ℕ) (e : Entry) (rule : Rule) → IsAdmitted i seen world n → entries ≡ seen ++ e ∷ after
    → IsFirstRule world.inputs (reverse world.history) e rule → IsFirstIllegal i entries n rule
one_refused i entries seen after world n e rule h whole refused = record {
  before = world.history;
  entry = e;
  after = after;
  whole = whole ∙ ap (λ (l : List Entry). l ++ e ∷ after) (sym h.same);
  place = h.place ∙ sym (ap length h.same);
  legal = h.legal;
  refused = subst (λ (j : Premises). IsFirstRule j (reverse world.history) e rule) h.inputs refused;
}

-- a legal history has no such entry
pub none_illegal : (i : Premises) (entries : List Entry) (n : ℕ) (rule : Rule) → IsFirstIllegal i entries n rule → IsLegal i (reverse entries) → ⊥
none_illegal i entries n rule h legal =
    let at : reverse entries ≡ reverse h.after ++ h.entry ∷ reverse h.before = ap reverse h.whole ∙ turned h.before h.entry h.after in
    rules_decide.refused i (reverse h.before) h.entry rule h.refused (allowed_at i (reverse h.after) (reverse h.before) (reverse entries) h.entry at legal).0

answer_right : (i : Premises) (entries seen after : List Entry) (world : World) (n : ℕ) (e : Entry) (fault : AdmitError) → IsAdmitted i seen world n → entries ≡ seen ++ e ∷ after
    → IsAdmitRefused world.inputs (reverse world.history) e fault → IsAuditRefused i entries (answer_at n fault)
answer_right i entries seen after world n e (Refused rule) h whole refused = one_refused i entries seen after world n e rule h whole refused
answer_right i entries seen after world n e NoMemory h whole refused = tt

-- the answer about an entry that isn't admitted
pub refused_at : (i : Premises) (entries seen after : List Entry) (world : World) (n : ℕ) (e : Entry) (fault : AdmitError) (answer : AuditError) → IsAdmitted i seen world n
    → entries ≡ seen ++ e ∷ after → IsAdmitRefused world.inputs (reverse world.history) e fault → answer ≡ answer_at n fault → IsAuditRefused i entries answer
refused_at i entries seen after world n e fault answer h whole refused same =
    subst (IsAuditRefused i entries) (sym same) (answer_right i entries seen after world n e fault h whole refused)

pub ruleset audits = (none_admitted, one_admitted, all_admitted)
