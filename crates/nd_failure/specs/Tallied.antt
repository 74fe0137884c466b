-- The statuses as a board keeps them: by the mark of a node, and whether it is cancelled.
-- No public clause cites this: it says what a type keeps, and serves private clauses.
use Rattle.std.specs.Prelude.{◌≡◌, ◌+◌, ℕ, Bool, true, false, if◌then◌else◌, List, [], ◌∷◌}
use Rattle.nd_failure.specs.Statuses.{same_status}
use Rattle.nd_failure.specs.declared.status.Counts.{Counts}
use Rattle.nd_failure.specs.declared.status.Mark.{Mark}
use Rattle.nd_failure.specs.declared.status.Mark.TheVariants as mark
use Rattle.nd_failure.specs.declared.status.Status.{Status}
use Rattle.nd_failure.specs.declared.status.Status.TheVariants.{Waiting, Leased, Built, Failed, Cancelled}

-- the status of a node with this mark, which is cancelled or not where it is free
abbrev pub status_by : Mark → Bool → Status
status_by mark.Free false = Waiting
status_by mark.Free true = Cancelled
status_by mark.Leased cancelled = Leased
status_by mark.Built cancelled = Built
status_by mark.Failed cancelled = Failed

-- the statuses of the nodes, by their marks and which of them are cancelled where they are free
abbrev pub statuses_of : List Mark → List Bool → List Status
statuses_of [] cancelled = []
statuses_of (m ∷ marks) [] = status_by m false ∷ statuses_of marks []
statuses_of (m ∷ marks) (c ∷ cancelled) = status_by m c ∷ statuses_of marks cancelled

-- the number for one status
abbrev pub count_in : Status → Counts → ℕ
count_in Waiting counts = counts.waiting
count_in Leased counts = counts.leased
count_in Built counts = counts.built
count_in Failed counts = counts.failed
count_in Cancelled counts = counts.cancelled

-- one for a status that is the same
abbrev pub one_if : Status → Status → ℕ
one_if s t = if same_status s t then 1 else 0

-- one node fewer has this status
pub record IsLess (s : Status) (old new : Counts) : Type 0 where
  pub waiting : new.waiting + one_if Waiting s ≡ old.waiting
  pub leased : new.leased + one_if Leased s ≡ old.leased
  pub built : new.built + one_if Built s ≡ old.built
  pub failed : new.failed + one_if Failed s ≡ old.failed
  pub cancelled : new.cancelled + one_if Cancelled s ≡ old.cancelled

-- one node more has this status
pub record IsMore (s : Status) (old new : Counts) : Type 0 where
  pub waiting : new.waiting ≡ old.waiting + one_if Waiting s
  pub leased : new.leased ≡ old.leased + one_if Leased s
  pub built : new.built ≡ old.built + one_if Built s
  pub failed : new.failed ≡ old.failed + one_if Failed s
  pub cancelled : new.cancelled ≡ old.cancelled + one_if Cancelled s

-- one node's status changes
pub record IsMoved (was becomes : Status) (old new : Counts) : Type 0 where
  pub waiting : new.waiting + one_if Waiting was ≡ old.waiting + one_if Waiting becomes
  pub leased : new.leased + one_if Leased was ≡ old.leased + one_if Leased becomes
  pub built : new.built + one_if Built was ≡ old.built + one_if Built becomes
  pub failed : new.failed + one_if Failed was ≡ old.failed + one_if Failed becomes
  pub cancelled : new.cancelled + one_if Cancelled was ≡ old.cancelled + one_if Cancelled becomes
