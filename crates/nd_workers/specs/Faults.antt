-- What a run's fault says. The clauses `fault` and `judged` of a run cite it. This project's own choice.
use Rattle.std.specs.Prelude.{◌≡◌, ℕ, ◌<◌, ◌≤◌, Bool, true, false, List, length, drop, reverse, Option, Some, None, All, Vec}
use Rattle.std.specs.List.{list_any, list_all}
use Rattle.nd_history.specs.History.{is_stop}
use Rattle.nd_history.specs.Premises.{Premises}
use Rattle.nd_history.specs.Statuses.{IsFinished}
use Rattle.nd_history.specs.declared.entry.Entry.{Entry}
use Rattle.nd_ledger.specs.Worlds.{World}
use Rattle.nd_receipts.specs.declared.receipt.Receipt.{Receipt}
use Rattle.nd_receipts.specs.Judged.{AreRowsJudged, WereWrong}
use Rattle.nd_receipts.specs.Made.{is_quiet}
use Rattle.nd_receipts.specs.Noted.{AreRowsNoted}
use Rattle.nd_workers.specs.declared.run_end.Evidence.{Evidence}
use Rattle.nd_workers.specs.declared.run_end.RunFault.{RunFault}
use Rattle.nd_workers.specs.declared.run_end.RunFault.TheVariants.{Thread, Memory, Receipts, Journal}
use Rattle.nd_workers.specs.Runs.{AreReceiptedFrom}

-- a stop is in the history, where fewer workers had a thread than there are
abbrev pub IsStopped : ℕ → ℕ → List Entry → Type 0
IsStopped threads workers history = threads < workers → list_any is_stop history ≡ true

-- a stop is in the history, where the journal doesn't hold all of it
abbrev pub IsHalted : Bool → List Entry → Type 0
IsHalted kept history = kept ≡ false → list_any is_stop history ≡ true

-- what came back of a run that began behind the first entries of its history, by workers on these places, is what the history says
pub record IsAlikeFrom {A : Type 0} (opened : ℕ) (now : World) (places : List (ℕ × ℕ)) (receipts : List (Vec Receipt A)) (evidence : Evidence) : Type 0 where
  -- nothing waits or is leased any more
  pub finished : IsFinished now.inputs (reverse now.history)
  -- no entry of a worker's own was refused
  pub willing : evidence.refused ≡ false
  -- each receipt names the entry that its worker noted, and says of its lease whether it was started before the run
  pub noted : AreRowsNoted opened now.history receipts evidence.copies.items
  -- .. and has the references that were refused, if it is about such
  pub judged : AreRowsJudged evidence.misreports receipts evidence.copies.items
  -- the receipts are the entries that workers made
  pub receipted : AreReceiptedFrom opened now.history places receipts
  -- where a worker had no thread, the run was stopped
  pub stopped : IsStopped evidence.threads (length places) now.history
  -- .. and where the journal doesn't hold the history
  pub halted : IsHalted evidence.kept now.history

-- the cause of each fault, and of none: of these causes exactly one stands
abbrev pub HasCause : {A : Type 0} → ℕ → World → List (ℕ × ℕ) → List (Vec Receipt A) → Evidence → Option RunFault → Type 0
HasCause opened now places receipts evidence (Some Receipts) = IsAlikeFrom opened now places receipts evidence → ⊥
HasCause opened now places receipts evidence (Some Journal) = IsAlikeFrom opened now places receipts evidence × (evidence.kept ≡ false)
HasCause opened now places receipts evidence (Some Thread) = IsAlikeFrom opened now places receipts evidence × (evidence.kept ≡ true) × (evidence.threads < length places)
HasCause opened now places receipts evidence (Some Memory) = IsAlikeFrom opened now places receipts evidence × (evidence.kept ≡ true) × (length places ≤ evidence.threads) × (list_all is_quiet (drop opened now.history) ≡ false)
HasCause opened now places receipts evidence None = IsAlikeFrom opened now places receipts evidence × (evidence.kept ≡ true) × (length places ≤ evidence.threads) × (list_all is_quiet (drop opened now.history) ≡ true)

-- .. where `alike` says whether what came back is what the history says, `kept` whether the journal holds it, and `new` are the entries since
-- the run began
abbrev pub IsFaultBy : Bool → Bool → ℕ → ℕ → List Entry → Option RunFault → Type 0
IsFaultBy alike kept threads workers new (Some Receipts) = alike ≡ false
IsFaultBy alike kept threads workers new (Some Journal) = (alike ≡ true) × (kept ≡ false)
IsFaultBy alike kept threads workers new (Some Thread) = (alike ≡ true) × (kept ≡ true) × (threads < workers)
IsFaultBy alike kept threads workers new (Some Memory) = (alike ≡ true) × (kept ≡ true) × (workers ≤ threads) × (list_all is_quiet new ≡ false)
IsFaultBy alike kept threads workers new None = (alike ≡ true) × (kept ≡ true) × (workers ≤ threads) × (list_all is_quiet new ≡ true)

pub record IsFaultFrom {A : Type 0} (opened : ℕ) (now : World) (places : List (ℕ × ℕ)) (receipts : List (Vec Receipt A)) (evidence : Evidence) (fault : Option RunFault) : Type 0 where
  pub cause : HasCause opened now places receipts evidence fault

-- .. of a run that began with this dispatch
abbrev pub IsFaultOf : {A : Type 0} → World → World → List (ℕ × ℕ) → List (Vec Receipt A) → Evidence → Option RunFault → Type 0
IsFaultOf opening now places receipts evidence fault = IsFaultFrom (length opening.history) now places receipts evidence fault

-- the references of each receipt that is about wrong ones are wrong, by what stands before its entry
abbrev pub AreAllWrong : {A : Type 0} → Premises → List Entry → List (Vec Receipt A) → Type 0
AreAllWrong i history receipts = All (λ v. All (WereWrong i history) v.items) receipts
