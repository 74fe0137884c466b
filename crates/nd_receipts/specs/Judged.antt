-- Which references builds reported and may not have. The clauses of nd_workers' `run` cite `WereWrong`, and `IsJudgedIn` within `AreRowsJudged`.
-- The histories of these definitions stand oldest first. This project's own choice.
use Rattle.std.specs.Prelude.{◌≡◌, ℕ, ◌<◌, length, List, Option, Some, None, slice_get, take, reverse, Vec}
use Rattle.std.specs.List.{AllZip}
use Rattle.std.specs.Ordering.{nat_cmp}
use Rattle.std.specs.BTreeMap.{get}
use Rattle.nd_history.specs.declared.entry.Entry.{Entry}
use Rattle.nd_history.specs.declared.entry.Entry.TheVariants.{Failed}
use Rattle.nd_history.specs.declared.entry.Why.TheVariants.{BadReferences}
use Rattle.nd_history.specs.Premises.{Premises}
use Rattle.nd_history.specs.References.{AreReferencesRight}
use Rattle.nd_receipts.specs.declared.judging.Misreports.{Misreports}
use Rattle.nd_receipts.specs.declared.receipt.Receipt.{Receipt}

-- the references that are kept for the entry at a place
abbrev pub refused_at : Misreports → ℕ → Option (List (List (List ℕ)))
refused_at misreports index = get nat_cmp misreports.known index

-- none is kept
pub record HasNone (misreports : Misreports) : Type 0 where
  pub each : (index : ℕ) → refused_at misreports index ≡ None

-- for each entry the same is kept
pub record KeepsSame (old new : Misreports) : Type 0 where
  pub each : (index : ℕ) → refused_at new index ≡ refused_at old index

-- these are kept for the entry at one place, and for the others what was
pub record HasKept (old new : Misreports) (index : ℕ) (refs : List (List (List ℕ))) : Type 0 where
  pub here : refused_at new index ≡ Some refs
  pub others : (other : ℕ) → (other ≡ index → ⊥) → refused_at new other ≡ refused_at old other

-- a build of d that reported these references after `past`, oldest first, may not have them
pub record AreWrong (i : Premises) (past : List Entry) (d : ℕ) (refs : List (List (List ℕ))) : Type 0 where
  pub never : AreReferencesRight i (reverse past) d refs → ⊥

-- what is kept is wrong: each for an entry of the history, and where that is a failure of d for its references, by what stands before it
pub record AreMisreports (i : Premises) (history : List Entry) (misreports : Misreports) : Type 0 where
  pub within : (index : ℕ) (refs : List (List (List ℕ))) → refused_at misreports index ≡ Some refs → index < length history
  pub wrong : (index d : ℕ) (refs : List (List (List ℕ))) → refused_at misreports index ≡ Some refs → slice_get history index ≡ Some (Failed d BadReferences) → AreWrong i (take index history) d refs

-- the receipt of a failure for wrong references has those that are kept for the entry at its place
pub record IsJudgedIn (misreports : Misreports) (r : Receipt) (e : Entry) : Type 0 where
  pub each : (d : ℕ) → e ≡ Failed d BadReferences → refused_at misreports r.index ≡ Some r.refs

-- where the receipt's entry is a failure of d for its references, those that the build reported are wrong by what stands before that entry
pub record WereWrong (i : Premises) (history : List Entry) (r : Receipt) : Type 0 where
  pub each : (d : ℕ) → slice_get history r.index ≡ Some (Failed d BadReferences) → AreWrong i (take r.index history) d r.refs

-- .. each receipt of these workers, beside the copies of their entries
pub record AreRowsJudged {A B : Type 0} (misreports : Misreports) (rows : List (Vec Receipt A)) (copies : List (Vec Entry B)) : Type 0 where
  pub each : AllZip (λ row beside. AllZip (IsJudgedIn misreports) row.items beside.items) rows copies
