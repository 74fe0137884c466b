-- What is kept of the references that builds reported in a run and may not have. The public clauses of a run cite `AreJudged`. The histories of
-- these definitions stand oldest first. This project's own choice.
use Rattle.std.specs.Prelude.{◌≡◌, ◌≤◌, ℕ, Bool, true, false, length, Some, None, slice_get}
use Rattle.nd_history.specs.declared.entry.Entry.{Entry}
use Rattle.nd_history.specs.declared.entry.Entry.TheVariants.{Chosen, NoBuilder, Started, Down, Built, Failed, Stop, Drain, Enable}
use Rattle.nd_history.specs.declared.entry.Why.{Why}
use Rattle.nd_history.specs.declared.entry.Why.TheVariants.{Status, Lost, BadReferences, NoWorker, Memory}
use Rattle.nd_ledger.specs.Worlds.{World}
use Rattle.nd_receipts.specs.declared.judging.Misreports.{Misreports}
use Rattle.nd_receipts.specs.Judged.{refused_at, AreMisreports}

-- a worker says so by its own word: of references it may not
abbrev pub is_own_cause : Why → Bool
is_own_cause (Status code) = true
is_own_cause Lost = true
is_own_cause BadReferences = false
is_own_cause NoWorker = false
is_own_cause Memory = true

-- no build failed for its references by this entry
abbrev pub is_no_misreport : Entry → Bool
is_no_misreport (Failed d BadReferences) = false
is_no_misreport (Failed d (Status code)) = true
is_no_misreport (Failed d Lost) = true
is_no_misreport (Failed d NoWorker) = true
is_no_misreport (Failed d Memory) = true
is_no_misreport (Started d paths) = true
is_no_misreport (Down d) = true
is_no_misreport (Built d refs) = true
is_no_misreport (Chosen d m s) = true
is_no_misreport (NoBuilder d) = true
is_no_misreport Stop = true
is_no_misreport (Drain m) = true
is_no_misreport (Enable m) = true

-- references are kept for the entry at this place
pub record HasReferences (misreports : Misreports) (index : ℕ) : Type 0 where
  pub some : refused_at misreports index ≡ None → ⊥

-- what is kept is wrong, and for each failure for references that came since the opening some are kept
pub record AreJudged (opening now : World) (misreports : Misreports) : Type 0 where
  pub wrong : AreMisreports now.inputs now.history misreports
  pub each : (index d : ℕ) → length opening.history ≤ index → slice_get now.history index ≡ Some (Failed d BadReferences) → HasReferences misreports index
