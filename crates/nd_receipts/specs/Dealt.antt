-- Which entries of a run are whose. The entries `past` of these definitions are those before, newest first, and the first of the
-- history among them: a lease that was taken up was made before the run.
-- This project's own choice. Public clauses cite this.
use Rattle.std.specs.Prelude.{◌≡◌, ℕ, ◌+◌, ◌==◌, Bool, false, if◌then◌else◌, List, [], ◌∷◌, map, Option, Some, None, slice_get}
use Rattle.std.specs.List.{AllZip, cons_option}
use Rattle.nd_history.specs.declared.entry.Entry.{Entry}
use Rattle.nd_history.specs.declared.entry.Entry.TheVariants.{Chosen, NoBuilder, Started, Down, Built, Failed, Stop, Drain, Enable}
use Rattle.nd_leases.specs.Tickets.{same_place}
use Rattle.nd_receipts.specs.declared.receipt.Receipt.{Receipt}
use Rattle.nd_receipts.specs.declared.receipt.Kind.{Kind}
use Rattle.nd_receipts.specs.declared.receipt.Kind.TheVariants.{Started as KindStarted, Down as KindDown, Built as KindBuilt, Failed as KindFailed}
use Rattle.nd_receipts.specs.Made.{is_worker_cause}

-- the place, a machine and a slot, on which a derivation was leased last
abbrev pub place_of : ℕ → List Entry → Option (ℕ × ℕ)
place_of d [] = None
place_of d (Chosen e m s ∷ past) = if d == e then Some (m, s) else place_of d past
place_of d (NoBuilder e ∷ past) = place_of d past
place_of d (Started e paths ∷ past) = place_of d past
place_of d (Down e ∷ past) = place_of d past
place_of d (Built e refs ∷ past) = place_of d past
place_of d (Failed e why ∷ past) = place_of d past
place_of d (Stop ∷ past) = place_of d past
place_of d (Drain m ∷ past) = place_of d past
place_of d (Enable m ∷ past) = place_of d past

-- the derivation and the kind of an entry that a worker makes
abbrev pub made_as : Entry → Option (ℕ × Kind)
made_as (Started d paths) = Some (d, KindStarted)
made_as (Down d) = Some (d, KindDown)
made_as (Built d refs) = Some (d, KindBuilt)
made_as (Failed d why) = if is_worker_cause why then Some (d, KindFailed) else None
made_as (Chosen d m s) = None
made_as (NoBuilder d) = None
made_as Stop = None
made_as (Drain m) = None
made_as (Enable m) = None

-- this is the place
abbrev pub is_place : ℕ × ℕ → Option (ℕ × ℕ) → Bool
is_place p None = false
is_place p (Some q) = same_place p q

-- the number and the kind of an entry that the worker of place p makes: its lease is on that place
abbrev pub mark_by : ℕ × ℕ → ℕ → List Entry → Option (ℕ × Kind) → Option (ℕ × Kind)
mark_by p i past None = None
mark_by p i past (Some made) = if is_place p (place_of made.0 past) then Some (i, made.1) else None

-- the numbers and kinds of the entries that the worker of place p makes, in their order; the first entry has number i
abbrev pub marks_on : ℕ × ℕ → ℕ → List Entry → List Entry → List (ℕ × Kind)
marks_on p i past [] = []
marks_on p i past (e ∷ es) = cons_option (mark_by p i past (made_as e)) (marks_on p (i + 1) (e ∷ past) es)

abbrev pub marks_of : List Receipt → List (ℕ × Kind)
marks_of receipts = map (λ r. (r.index, r.kind)) receipts

-- no place is that of two workers
pub record AreApart (places : List (ℕ × ℕ)) : Type 0 where
  pub each : (j k : ℕ) (p : ℕ × ℕ) → slice_get places j ≡ Some p → slice_get places k ≡ Some p → j ≡ k

-- where the entry is a lease, it is on the place of one of the workers
pub record IsOnPlace (places : List (ℕ × ℕ)) (e : Entry) : Type 0 where
  pub each : (d m s : ℕ) → e ≡ Chosen d m s → (worker : ℕ) × (slice_get places worker ≡ Some (m, s))

-- .. and where a worker makes the entry, its lease is
pub record HasWorker (places : List (ℕ × ℕ)) (past : List Entry) (e : Entry) : Type 0 where
  pub leased : IsOnPlace places e
  pub each : (d : ℕ) (kind : Kind) → made_as e ≡ Some (d, kind) → (worker : ℕ) × (p : ℕ × ℕ) × (slice_get places worker ≡ Some p) × (place_of d past ≡ Some p)

abbrev pub HaveWorkers : List (ℕ × ℕ) → List Entry → List Entry → Type 0
HaveWorkers places past [] = Unit {0}
HaveWorkers places past (e ∷ es) = HasWorker places past e × HaveWorkers places (e ∷ past) es

-- the receipts of each worker are the entries that the worker of its place makes behind `past`, in their order; and every lease
-- there, and every entry that a worker makes, is on the place of a worker
pub record AreReceipted (places : List (ℕ × ℕ)) (opening : ℕ) (past new : List Entry) (rows : List (List Receipt)) : Type 0 where
  pub each : AllZip (λ p row. marks_of row ≡ marks_on p opening past new) places rows
  pub all : HaveWorkers places past new
