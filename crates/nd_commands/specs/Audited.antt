-- What `audit` answers: whether the history is legal, and else the first entry that isn't allowed with the first rule that refuses it.
-- The clauses of `audit_engine` cite this, but for `LeavesVerdict` and `IsVerdictFault`, which serve private ones.
use Rattle.std.specs.Prelude.{◌≡◌, ◌⊎◌, ℕ, ◌<◌, ◌≤◌, Bool, true, false, List, ◌∷◌, ◌++◌, length, reverse, codes, Option}
use Rattle.std.specs.Fmt.{decimal}
use Rattle.std.specs.Io.KnownBytes.{Appends}
use Rattle.nd_hook.specs.ReplyText.{line}
use Rattle.nd_devices.specs.Watched.{Watched}
use Rattle.nd_devices.specs.Written.{WritesPart}
use Rattle.nd_history.specs.declared.entry.Entry.{Entry}
use Rattle.nd_history.specs.declared.rule.Rule.{Rule}
use Rattle.nd_history.specs.Premises.{Premises}
use Rattle.nd_history.specs.Legal.{IsLegal}
use Rattle.nd_history.specs.Audit.{rule_name}
use Rattle.nd_history_text.specs.Sound.{IsHistoryText, IsRefused}
use Rattle.nd_report.specs.Audits.{IsFirstIllegal}
use Rattle.nd_history_text.specs.declared.history_error.HistoryError.{HistoryError}
use Rattle.nd_cli.specs.Inputs.{limit, is_write_fault}
use Rattle.nd_cli.specs.Parks.{IsParkAccepted}
use Rattle.nd_cli.specs.Asked.{RefusesPark}
use Rattle.nd_cli.specs.declared.options.ParkOptions.{ParkOptions}
use Rattle.nd_cli.specs.declared.fault.Place.{Place}
use Rattle.nd_cli.specs.declared.fault.HistoryTextError.{HistoryTextError}
use Rattle.nd_cli.specs.declared.fault.HistoryTextError.TheVariants.{Version, BadLine}
use Rattle.nd_cli.specs.declared.fault.CliFault.{CliFault}
use Rattle.nd_cli.specs.declared.fault.CliFault.TheVariants.{Derivation, Drvs, Builders, Info, Script, Stand, History, TooLarge, TooManySlots, Read, Write, Memory, Thread, Receipts}
use Rattle.nd_commands.specs.Opened.{ReadsInputs}

-- the history text is within the limit, and is that of these entries
pub record HasHistory (history : List ℕ) (entries : List Entry) : Type 0 where
  pub within : length history ≤ limit
  pub text : IsHistoryText history entries

-- the reader's name for the refusal
abbrev pub as_history_error : HistoryTextError → HistoryError
as_history_error Version = HistoryError.Version
as_history_error (BadLine n) = HistoryError.BadLine n

-- the program's name for the refusal
abbrev pub fault_of : HistoryError → CliFault
fault_of HistoryError.Version = History Version
fault_of (HistoryError.BadLine n) = History (BadLine n)
fault_of HistoryError.Memory = Memory

-- Why the history text is refused: it is too large, it has no version, or this is its first bad line. Want of memory is told only of
-- one that isn't too large.
abbrev pub IsHistoryFault : List ℕ → CliFault → Type 0
IsHistoryFault history (TooLarge place) = (place ≡ Place.History) × (limit < length history)
IsHistoryFault history (History refusal) = (length history ≤ limit) × IsRefused history (as_history_error refusal)
IsHistoryFault history Memory = length history ≤ limit
IsHistoryFault history _ = ⊥

-- what a verdict begins with
unfoldable pub verdict_word : Bool → List ℕ
verdict_word true = codes "legal "
verdict_word false = codes "illegal "

-- the line for a history of so many entries that is legal
unfoldable pub legal_line : ℕ → List ℕ
legal_line count = line (verdict_word true ++ decimal count)

-- an entry's place, and the rule that refuses it
abbrev pub refusal_words : ℕ → Rule → List ℕ
refusal_words index rule = decimal index ++ 32 ∷ rule_name rule

-- the line for one whose entry at this place is refused by this rule
unfoldable pub illegal_line : ℕ → Rule → List ℕ
illegal_line index rule = line (verdict_word false ++ refusal_words index rule)

-- the history is legal: status 0
pub record SaysLegal (i : Premises) (entries : List Entry) (status : ℕ) (text : List ℕ) : Type 0 where
  pub legal : IsLegal i (reverse entries)
  pub status_is : status ≡ 0
  pub is : text ≡ legal_line (length entries)

-- it isn't: status 4
pub record SaysIllegal (i : Premises) (entries : List Entry) (status : ℕ) (text : List ℕ) : Type 0 where
  pub index : ℕ
  pub rule : Rule
  pub illegal : IsFirstIllegal i entries index rule
  pub status_is : status ≡ 4
  pub is : text ≡ illegal_line index rule

abbrev pub SaysAudit : Premises → List Entry → ℕ → List ℕ → Type 0
SaysAudit i entries status text = SaysLegal i entries status text ⊎ SaysIllegal i entries status text

-- the verdict was written
pub record WritesVerdict {W : Type 0} (i : Premises) (entries : List Entry) (status : ℕ) (contents : W → Option (List ℕ)) (writer writer_after : Watched W) : Type 0 where
  pub text : List ℕ
  pub says : SaysAudit i entries status text
  pub appended : Appends (contents writer.device) (contents writer_after.device) text

-- a part of it was written, from its beginning
pub record WritesVerdictPart {W : Type 0} (i : Premises) (entries : List Entry) (contents : W → Option (List ℕ)) (writer writer_after : Watched W) : Type 0 where
  pub status : ℕ
  pub text : List ℕ
  pub says : SaysAudit i entries status text
  pub part : WritesPart (contents writer.device) (contents writer_after.device) text

-- what a fault leaves of a verdict: the writer's, a part of it
abbrev pub LeavesVerdict : {W : Type 0} → Premises → List Entry → (W → Option (List ℕ)) → Watched W → Watched W → CliFault → Type 0
LeavesVerdict i entries contents writer writer_after e = is_write_fault e ≡ true → WritesVerdictPart i entries contents writer writer_after

-- the inputs are accepted, and the verdict was written
pub record AnswersAudit {R W : Type 0} (options : ParkOptions) (history : List ℕ) (status : ℕ) (remaining : R → Option (List ℕ)) (reader reader_after : Watched R) (contents : W → Option (List ℕ)) (writer writer_after : Watched W) : Type 0 where
  pub inputs : Premises
  pub reads : ReadsInputs options (remaining reader.device) (remaining reader_after.device) inputs
  pub entries : List Entry
  pub has : HasHistory history entries
  pub verdict : WritesVerdict inputs entries status contents writer writer_after

-- .. or a part of it
pub record AnswersAuditInPart {R W : Type 0} (options : ParkOptions) (history : List ℕ) (remaining : R → Option (List ℕ)) (reader reader_after : Watched R) (contents : W → Option (List ℕ)) (writer writer_after : Watched W) : Type 0 where
  pub inputs : Premises
  pub reads : ReadsInputs options (remaining reader.device) (remaining reader_after.device) inputs
  pub entries : List Entry
  pub has : HasHistory history entries
  pub verdict : WritesVerdictPart inputs entries contents writer writer_after

-- what a fault leaves: the writer's, a part of the verdict
abbrev pub LeavesAudit : {R W : Type 0} → ParkOptions → List ℕ → (R → Option (List ℕ)) → Watched R → Watched R → (W → Option (List ℕ)) → Watched W → Watched W → CliFault → Type 0
LeavesAudit options history remaining reader reader_after contents writer writer_after e =
    is_write_fault e ≡ true → AnswersAuditInPart options history remaining reader reader_after contents writer writer_after

-- each input is accepted
pub record IsAuditAccepted (options : ParkOptions) (text history : List ℕ) : Type 0 where
  pub park : IsParkAccepted options text
  pub entries : List Entry
  pub has : HasHistory history entries

-- the bundle and the park are accepted, and the history text is refused for this reason
pub record RefusesHistory (options : ParkOptions) (history : List ℕ) (unread left : Option (List ℕ)) (fault : CliFault) : Type 0 where
  pub inputs : Premises
  pub reads : ReadsInputs options unread left inputs
  pub refused : IsHistoryFault history fault

-- an input is refused
abbrev pub RefusesAudit : ParkOptions → List ℕ → Option (List ℕ) → Option (List ℕ) → CliFault → Type 0
RefusesAudit options history unread left fault = RefusesPark options unread left fault ⊎ RefusesHistory options history unread left fault

-- Why there is no answer: an input is refused, a device failed and is marked, or memory ran out.
abbrev pub IsAuditFault : {R : Type 0} → ParkOptions → List ℕ → (R → Option (List ℕ)) → Watched R → Watched R → Bool → CliFault → Type 0
IsAuditFault options history remaining reader reader_after writer_marked (Derivation e) = ⊥
IsAuditFault options history remaining reader reader_after writer_marked (Drvs e) = RefusesPark options (remaining reader.device) (remaining reader_after.device) (Drvs e)
IsAuditFault options history remaining reader reader_after writer_marked (Builders e) = RefusesPark options (remaining reader.device) (remaining reader_after.device) (Builders e)
IsAuditFault options history remaining reader reader_after writer_marked (Info e) = RefusesPark options (remaining reader.device) (remaining reader_after.device) (Info e)
IsAuditFault options history remaining reader reader_after writer_marked (Script e) = ⊥
IsAuditFault options history remaining reader reader_after writer_marked (History e) = RefusesHistory options history (remaining reader.device) (remaining reader_after.device) (History e)
IsAuditFault options history remaining reader reader_after writer_marked (Stand e) = ⊥
IsAuditFault options history remaining reader reader_after writer_marked (TooLarge place) = RefusesAudit options history (remaining reader.device) (remaining reader_after.device) (TooLarge place)
IsAuditFault options history remaining reader reader_after writer_marked TooManySlots = ⊥
IsAuditFault options history remaining reader reader_after writer_marked Read = reader_after.is_marked ≡ true
IsAuditFault options history remaining reader reader_after writer_marked Write = writer_marked ≡ true
IsAuditFault options history remaining reader reader_after writer_marked Memory = Unit {0}
IsAuditFault options history remaining reader reader_after writer_marked Thread = ⊥
IsAuditFault options history remaining reader reader_after writer_marked Receipts = ⊥

-- why no verdict is out: the writer failed and is marked, or memory ran out
abbrev pub IsVerdictFault : Bool → CliFault → Type 0
IsVerdictFault marked Write = marked ≡ true
IsVerdictFault marked Memory = Unit {0}
IsVerdictFault marked _ = ⊥
