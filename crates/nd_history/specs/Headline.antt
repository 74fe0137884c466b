-- The claims about every history that a dispatch holds. The histories of these definitions stand newest first.
-- "At its place" an entry comes after those that stand before it: `past ≡ later ++ e ∷ before`.
-- Public clauses cite this.
use Rattle.std.specs.Prelude.{◌≡◌, ◌==◌, ℕ, zero, suc, ◌<◌, ◌≤◌, Bool, true, false, List, ◌∷◌, ◌++◌, length, count_by, Some, slice_get}
use Rattle.nd_eligible.specs.declared.need.Need.{Need}
use Rattle.nd_eligible.specs.Eligibility.{IsEligibleAt, LocalOk}
use Rattle.nd_failure.specs.Statuses.{total_of}
use Rattle.nd_failure.specs.declared.status.Counts.{Counts}
use Rattle.nd_failure.specs.declared.status.Status.{Status}
use Rattle.nd_hook.specs.declared.kinds.Decision.TheVariants.{Local}
use Rattle.nd_history.specs.declared.entry.Entry.{Entry}
use Rattle.nd_history.specs.declared.entry.Entry.TheVariants.{Chosen, Started}
use Rattle.nd_leases.specs.declared.ticket.Ticket.{Ticket}
use Rattle.nd_history.specs.Premises.{Premises}
use Rattle.nd_history.specs.History.{live, load, is_taken, lease_of}
use Rattle.nd_leases.specs.Tickets.{is_on}
use Rattle.nd_history.specs.Standing.{drvs_in, AreInputsBuilt}
use Rattle.nd_history.specs.Statuses.{HasStatusIn, AreCountsIn}
use Rattle.nd_history.specs.Choices.{jobs_of, HasDecision, IsBestFor}

-- slots are leases: a slot is taken by one live lease only, it is one of its machine's, and no machine has more live leases
-- than it may build at once
pub record SlotsAreLeases (i : Premises) (past : List Entry) : Type 0 where
  pub once : (m s : ℕ) → count_by (is_on m s) (live past) ≤ 1
  pub ranged : (m s : ℕ) → is_taken m s past ≡ true → s < jobs_of i m
  pub within : (m : ℕ) → load m past ≤ jobs_of i m

-- one lease, inputs first: no derivation has two live leases, and none was leased before its inputs were built
pub record LeasesAreInOrder (i : Premises) (past : List Entry) : Type 0 where
  pub once : (d : ℕ) → count_by (λ t. d == t.drv) (live past) ≤ 1
  pub inputs : (later before : List Entry) (d m s : ℕ) → past ≡ later ++ Chosen d m s ∷ before → AreInputsBuilt i before d

-- where the lease of a ticket was made
pub record IsChosenIn (past : List Entry) (t : Ticket) : Type 0 where
  pub later : List Entry
  pub before : List Entry
  pub place : past ≡ later ++ Chosen t.drv t.machine t.slot ∷ before
  pub serial : t.serial ≡ length before

-- machine m is eligible for a derivation with this need: for the local machine this is the local test
abbrev pub IsFit : Premises → Need → ℕ → Type 0
IsFit i need zero = LocalOk i.local need × (1 ≤ i.local.jobs)
IsFit i need (suc p) = IsEligibleAt i.machines need p

pub record IsFitFor (i : Premises) (d m : ℕ) : Type 0 where
  pub need : Need
  pub needs : slice_get i.graph.needs d ≡ Some need
  pub fit : IsFit i need m

-- a derivation that was started had a live lease, which was chosen on a machine that was eligible for it
pub record WasEligible (i : Premises) (before : List Entry) (d : ℕ) : Type 0 where
  pub ticket : Ticket
  pub live : lease_of d before ≡ Some ticket
  pub chosen : IsChosenIn before ticket
  pub fit : IsFitFor i ticket.drv ticket.machine

-- eligible: each start was that of a lease on an eligible machine
pub record StartsAreEligible (i : Premises) (past : List Entry) : Type 0 where
  pub starts : (later before : List Entry) (d : ℕ) (paths : List (List ℕ)) → past ≡ later ++ Started d paths ∷ before → WasEligible i before d

-- the entry says that the build of derivation d started
abbrev pub starts : ℕ → Entry → Bool
starts d (Started e paths) = d == e
starts d _ = false

-- no derivation is started twice, whatever became of its first start
pub record StartsAreOnce (past : List Entry) : Type 0 where
  pub once : (d : ℕ) → count_by (starts d) past ≤ 1

-- a derivation has a status, and no other
pub record HasOneStatus (i : Premises) (past : List Entry) (d : ℕ) : Type 0 where
  pub status : Status
  pub has : HasStatusIn i past d status
  pub only : (other : Status) → HasStatusIn i past d other → other ≡ status

-- counts sum: each derivation of the graph has a status and no other, and the numbers of derivations with each status sum to the
-- number of derivations
pub record CountsSum (i : Premises) (past : List Entry) : Type 0 where
  pub one : (d : ℕ) → d < drvs_in i → HasOneStatus i past d
  pub counts : Counts
  pub counted : AreCountsIn i past counts
  pub sum : total_of counts ≡ drvs_in i

-- least-loaded choice: each choice of a builder was the best one at its place, and each choice of the local machine was the
-- decision there, with a free local slot
pub record ChoicesAreBest (i : Premises) (past : List Entry) : Type 0 where
  pub best : (later before : List Entry) (d p s : ℕ) → past ≡ later ++ Chosen d (suc p) s ∷ before → IsBestFor i before d p
  pub home : (later before : List Entry) (d s : ℕ) → past ≡ later ++ Chosen d 0 s ∷ before → HasDecision i before d Local × (load 0 before < i.local.jobs)
