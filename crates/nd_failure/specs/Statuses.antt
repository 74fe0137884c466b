-- The status of a node, the numbers of nodes with each status, and the next node that can be begun.
-- The five statuses and their names are this project's own choice.
-- Public clauses cite this.
use Rattle.std.specs.Prelude.{◌≡◌, ◌+◌, ◌<◌, ◌≤◌, ◌⊎◌, ℕ, Bool, true, false, List, Option, None, Some, length, slice_index_or}
use Rattle.std.specs.List.{count_by}
use Rattle.nd_failure.specs.Progress.{Progress, IsLeased, IsBuilt, IsFailed, IsCancelled, IsWaiting, IsReady}
use Rattle.nd_failure.specs.declared.status.Counts.{Counts}
use Rattle.nd_failure.specs.declared.status.Status.{Status}
use Rattle.nd_failure.specs.declared.status.Status.TheVariants.{Waiting, Leased, Built, Failed, Cancelled}

-- the status of node d
abbrev pub HasStatus : Progress → ℕ → Status → Type 0
HasStatus p d Waiting = IsWaiting p d
HasStatus p d Leased = IsLeased p d
HasStatus p d Built = IsBuilt p d
HasStatus p d Failed = IsFailed p d
HasStatus p d Cancelled = IsCancelled p d

-- whether two statuses are the same
abbrev pub same_status : Status → Status → Bool
same_status Waiting Waiting = true
same_status Leased Leased = true
same_status Built Built = true
same_status Failed Failed = true
same_status Cancelled Cancelled = true
same_status _ _ = false

-- how often a status stands in a list
abbrev pub count_of : Status → List Status → ℕ
count_of status statuses = count_by (same_status status) statuses

-- the list has the status of each node, in the order of their numbers
pub record AreStatuses (p : Progress) (statuses : List Status) : Type 0 where
  pub one_each : length statuses ≡ length p.inputs
  pub right : (d : ℕ) → d < length p.inputs → HasStatus p d (slice_index_or statuses d Waiting)

-- the five numbers are how often each status stands in the list
pub record IsTally (statuses : List Status) (counts : Counts) : Type 0 where
  pub waiting : counts.waiting ≡ count_of Waiting statuses
  pub leased : counts.leased ≡ count_of Leased statuses
  pub built : counts.built ≡ count_of Built statuses
  pub failed : counts.failed ≡ count_of Failed statuses
  pub cancelled : counts.cancelled ≡ count_of Cancelled statuses

-- the five numbers are the numbers of nodes with each status
pub record AreCounts (p : Progress) (counts : Counts) : Type 0 where
  pub statuses : List Status
  pub of_nodes : AreStatuses p statuses
  pub tally : IsTally statuses counts

-- the five numbers together
abbrev pub total_of : Counts → ℕ
total_of counts = counts.waiting + counts.leased + counts.built + counts.failed + counts.cancelled

-- node d can fail: it is leased, or it is ready and there is no builder for it
abbrev pub CanFail : Progress → ℕ → Type 0
CanFail p d = IsLeased p d ⊎ IsReady p d

-- node d is the first from `from` on that can be begun
pub record IsFirstReady (p : Progress) (from d : ℕ) : Type 0 where
  pub ready : IsReady p d
  pub not_before : from ≤ d
  pub first : (k : ℕ) → from ≤ k → k < d → IsReady p k → ⊥

-- the answer is the first node from `from` on that can be begun, or there is none
abbrev pub IsNextReady : Progress → ℕ → Option ℕ → Type 0
IsNextReady p from None = (k : ℕ) → from ≤ k → IsReady p k → ⊥
IsNextReady p from (Some d) = IsFirstReady p from d
