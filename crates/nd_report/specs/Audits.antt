-- The audit of a history: its first entry that isn't allowed after those before it, and the first rule that refuses that one.
-- The histories of these definitions stand oldest first, and `reverse` turns them round for the definitions of a legal history.
-- Public clauses cite this, but `answer_at` and `IsRefusedAt` serve private clauses alone.
use Rattle.std.specs.Prelude.{◌≡◌, ℕ, Bool, List, ◌∷◌, ◌++◌, length, reverse}
use Rattle.nd_machines.specs.Builders.{Builder}
use Rattle.nd_eligible.specs.Settings.{Settings}
use Rattle.nd_graph.specs.Graphs.{Nodes}
use Rattle.nd_closure.specs.Tables.{Table}
use Rattle.nd_history.specs.declared.entry.Entry.{Entry}
use Rattle.nd_history.specs.declared.rule.Rule.{Rule}
use Rattle.nd_history.specs.Premises.{Premises, premises as together}
use Rattle.nd_history.specs.Legal.{IsLegal}
use Rattle.nd_history.specs.Audit.{IsFirstRule}
use Rattle.nd_ledger.specs.Worlds.{World}
use Rattle.nd_ledger.specs.Admitting.{IsAdmitRefused}
use Rattle.nd_ledger.specs.declared.refusal.AdmitError.{AdmitError}
use Rattle.nd_ledger.specs.declared.refusal.AdmitError.TheVariants.{Illegal as Refused, Memory as NoMemory}
use Rattle.nd_report.specs.declared.audit_error.AuditError.{AuditError}
use Rattle.nd_report.specs.declared.audit_error.AuditError.TheVariants.{Illegal, Memory}

-- the entry at this place is the first that isn't allowed, and this is the first rule that refuses it
pub record IsFirstIllegal (i : Premises) (entries : List Entry) (index : ℕ) (rule : Rule) : Type 0 where
  pub before : List Entry
  pub entry : Entry
  pub after : List Entry
  pub whole : entries ≡ before ++ entry ∷ after
  pub place : index ≡ length before
  pub legal : IsLegal i (reverse before)
  pub refused : IsFirstRule i (reverse before) entry rule

-- when an audit answers which refusal
abbrev pub IsAuditRefused : Premises → List Entry → AuditError → Type 0
IsAuditRefused i entries (Illegal index rule) = IsFirstIllegal i entries index rule
IsAuditRefused i entries Memory = Unit {0}

-- Entries were to go behind the history of a dispatch. The one at this place, from 0 among them, is the first that isn't allowed
-- there, and this is the first rule that refuses it; those before it were appended, and no others.
pub record IsFirstUnadmitted (earlier later : World) (entries : List Entry) (index : ℕ) (rule : Rule) : Type 0 where
  pub before : List Entry
  pub entry : Entry
  pub after : List Entry
  pub whole : entries ≡ before ++ entry ∷ after
  pub place : index ≡ length before
  pub history : later.history ≡ earlier.history ++ before
  pub legal : IsLegal earlier.inputs (reverse later.history)
  pub refused : IsFirstRule earlier.inputs (reverse later.history) entry rule

-- some of the entries, from the first on, were appended
pub record AreAdmittedInPart (earlier later : World) (entries : List Entry) : Type 0 where
  pub before : List Entry
  pub after : List Entry
  pub whole : entries ≡ before ++ after
  pub history : later.history ≡ earlier.history ++ before
  pub legal : IsLegal earlier.inputs (reverse later.history)

-- when the appending of entries to a dispatch ends with which refusal, and what the dispatch is then
abbrev pub IsAdmissionRefused : World → List Entry → World → AuditError → Type 0
IsAdmissionRefused earlier entries later (Illegal index rule) = IsFirstUnadmitted earlier later entries index rule
IsAdmissionRefused earlier entries later Memory = AreAdmittedInPart earlier later entries

-- what an audit answers where the entry at this place is not admitted
abbrev pub answer_at : ℕ → AdmitError → AuditError
answer_at index (Refused rule) = Illegal index rule
answer_at index NoMemory = Memory

-- an audit's answer about the entry at this place, which isn't admitted behind these, newest first
pub record IsRefusedAt (i : Premises) (past : List Entry) (e : Entry) (index : ℕ) (answer : AuditError) : Type 0 where
  pub fault : AdmitError
  pub refused : IsAdmitRefused i past e fault
  pub is : answer ≡ answer_at index fault

-- the five inputs together
abbrev pub premises : Nodes → List Builder → Settings → Table → Bool → Premises
premises graph machines local info keep_going = together graph machines local info.entries keep_going
