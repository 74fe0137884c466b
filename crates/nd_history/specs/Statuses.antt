-- The status of a derivation after a history, which stands newest first, and the numbers of derivations with each status.
-- Public clauses cite this.
use Rattle.std.specs.Prelude.{◌≡◌, ℕ, ◌+◌, ◌<◌, true, List, length, slice_index_or, nat_lt, if◌then◌else◌}
use Rattle.nd_failure.specs.Statuses.{IsTally}
use Rattle.nd_failure.specs.declared.status.Counts.{Counts}
use Rattle.nd_failure.specs.declared.status.Status.{Status}
use Rattle.nd_failure.specs.declared.status.Status.TheVariants.{Waiting, Leased, Built, Failed, Cancelled}
use Rattle.nd_history.specs.declared.entry.Entry.{Entry}
use Rattle.nd_history.specs.Premises.{Premises}
use Rattle.nd_history.specs.History.{is_built, is_failed, is_leased}
use Rattle.nd_history.specs.Standing.{drvs_in, IsOpen, IsDoomed, IsWaiting}

-- the status of derivation d
abbrev pub HasStatusIn : Premises → List Entry → ℕ → Status → Type 0
HasStatusIn i past d Built = is_built d past ≡ true
HasStatusIn i past d Failed = is_failed d past ≡ true
HasStatusIn i past d Leased = is_leased d past ≡ true
HasStatusIn i past d Cancelled = IsOpen past d × IsDoomed i past d
HasStatusIn i past d Waiting = IsWaiting i past d

-- the list has the status of each derivation, in the order of the bundle
pub record AreStatusesIn (i : Premises) (past : List Entry) (statuses : List Status) : Type 0 where
  pub one_each : length statuses ≡ drvs_in i
  pub right : (d : ℕ) → d < drvs_in i → HasStatusIn i past d (slice_index_or statuses d Waiting)

-- the five numbers are the numbers of derivations with each status
pub record AreCountsIn (i : Premises) (past : List Entry) (counts : Counts) : Type 0 where
  pub statuses : List Status
  pub of_drvs : AreStatusesIn i past statuses
  pub tally : IsTally statuses counts

-- no derivation waits, and none is leased
pub record IsFinished (i : Premises) (past : List Entry) : Type 0 where
  pub none_waits : (d : ℕ) → d < drvs_in i → HasStatusIn i past d Waiting → ⊥
  pub none_leased : (d : ℕ) → d < drvs_in i → HasStatusIn i past d Leased → ⊥

-- the exit status of a run or a simulation that came to this: 1 where a derivation failed or was cancelled, and else 0
pub record IsExitStatus (i : Premises) (past : List Entry) (status : ℕ) : Type 0 where
  pub counts : Counts
  pub counted : AreCountsIn i past counts
  pub is : status ≡ (if nat_lt 0 (counts.failed + counts.cancelled) then 1 else 0)
