-- When a run is refused, and what is known of its end. The public clauses of a run cite it. This project's own choice.
use Rattle.std.specs.Prelude.{◌≡◌, ℕ, ◌<◌, Bool, true, ◌&&◌, List, ◌++◌, length, map, take, drop, count_by, nat_lt, reverse, Option, Some, Vec}
use Rattle.std.specs.List.{AllZip, zip, list_all}
use Rattle.nd_history.specs.declared.entry.Entry.{Entry}
use Rattle.nd_leases.specs.Tickets.{same_place}
use Rattle.nd_history.specs.Premises.{Premises}
use Rattle.nd_history.specs.Choices.{machines_in, jobs_of}
use Rattle.nd_history.specs.Statuses.{IsFinished}
use Rattle.nd_ledger.specs.Worlds.{World}
use Rattle.nd_keeping.specs.Scribing.{Scribing}
use Rattle.nd_run_desk.specs.Jobs.{IsAsked, IsDue}
use Rattle.nd_run_desk.specs.Leaves.{Keeping}
use Rattle.nd_receipts.specs.declared.receipt.Receipt.{Receipt}
use Rattle.nd_receipts.specs.Receipts.{AreCallsIn}
use Rattle.nd_receipts.specs.Dealt.{AreReceipted}
use Rattle.nd_transports.specs.Calls.{State, Deed}
use Rattle.nd_workers.specs.declared.run_end.RunFault.{RunFault}
use Rattle.nd_workers.specs.declared.run_end.RunFault.TheVariants.{Receipts}
use Rattle.nd_workers.specs.declared.run_end.RunError.{RunError}
use Rattle.nd_workers.specs.declared.run_end.RunError.TheVariants.{Slots, TooManySlots, Memory}
use Rattle.nd_workers.specs.declared.seat.Seat.{Seat}
use Rattle.nd_workers.specs.Served.{Seated, seat_of}
use Rattle.nd_run_desk.specs.Steps.{RunsOn}

-- a worker is on this place
abbrev pub is_at : ℕ → ℕ → ℕ × ℕ → Bool
is_at m s w = same_place (m, s) w

-- the place is one of the park
abbrev pub is_in_park : Premises → ℕ × ℕ → Bool
is_in_park i w = nat_lt w.0 (machines_in i) && nat_lt w.1 (jobs_of i w.0)

-- there is one worker for each slot of machine m
pub record IsMachineManned (i : Premises) (places : List (ℕ × ℕ)) (m : ℕ) : Type 0 where
  pub each : (s : ℕ) → s < jobs_of i m → count_by (is_at m s) places ≡ 1

-- there is one worker for each slot of each machine, and each worker serves such a slot
pub record AreManned (i : Premises) (places : List (ℕ × ℕ)) : Type 0 where
  pub each : (m : ℕ) → m < machines_in i → IsMachineManned i places m
  pub within : list_all (is_in_park i) places ≡ true

-- a run is refused where the workers aren't one for each slot, then where there are too many; memory may be wanting at any point
abbrev pub IsRunRefused : Premises → List (ℕ × ℕ) → RunError → Type 0
IsRunRefused i places Slots = AreManned i places → ⊥
IsRunRefused i places TooManySlots = AreManned i places × (1024 < length places)
IsRunRefused i places Memory = Unit {0}

-- what came back was compared with the history, and no difference was found: the run has no fault, or another one
abbrev pub Agrees : Option RunFault → Type 0
Agrees fault = fault ≡ Some Receipts → ⊥

-- a run is over: its dispatch goes on from the one that was handed in by what a run may add, and nothing waits or is leased any more
pub record IsOver (opening now : World) : Type 0 where
  pub runs : RunsOn opening now
  pub finished : IsFinished now.inputs (reverse now.history)

-- a worker kept its place, and its transport's calls since then are those of its receipts, in a run that began behind the first `opened`
-- entries of the history, each made as `Due` says of its derivation
pub record IsServedIn (Due : ℕ → Deed → Type 0) (opened : ℕ) (history : List Entry) (before after : Seated) (receipts : List Receipt) : Type 0 where
  pub place : after.place ≡ before.place
  pub deeds : List Deed
  pub grown : after.deeds ≡ before.deeds ++ deeds
  pub agree : AreCallsIn Due opened history receipts deeds

-- .. each of these workers, with its receipts
abbrev pub AreServedIn : {T A : Type 0} → (ℕ → Deed → Type 0) → (T → State) → ℕ → List Entry → List (Seat T) → List (Seat T) → List (Vec Receipt A) → Type 0
AreServedIn Due state opened history before after receipts = AllZip (λ w x. IsServedIn Due opened history (seat_of state w) (seat_of state x.0) x.1.items) before (zip after receipts)

-- .. in a run that began with this dispatch and asks as `Due` says
abbrev pub AreServedBy : {T A : Type 0} → (ℕ → Deed → Type 0) → (T → State) → World → World → List (Seat T) → List (Seat T) → List (Vec Receipt A) → Type 0
AreServedBy Due state opening now before after receipts = AreServedIn Due state (length opening.history) now.history before after receipts

-- .. for jobs of the run
abbrev pub AreServed : {T A : Type 0} → (T → State) → World → World → List (Seat T) → List (Seat T) → List (Vec Receipt A) → Type 0
AreServed state opening now before after receipts = AreServedBy (IsAsked opening) state opening now before after receipts

-- a run that keeps its history by this scribe, or doesn't
abbrev pub keeping_of : Scribing → Bool → Keeping
keeping_of scribe keeps = record { book = scribe.handed.book; keeps = keeps }

-- .. where the run keeps its history by this scribe: each call was made once what stands behind it was durable in the scribe's journal
abbrev pub AreServedKept : {T A : Type 0} → Scribing → (T → State) → World → World → List (Seat T) → List (Seat T) → List (Vec Receipt A) → Type 0
AreServedKept scribe state opening now before after receipts = AreServedBy (IsDue (keeping_of scribe true) opening) state opening now before after receipts

-- the entries since the opening
abbrev pub since : World → World → List Entry
since opening now = drop (length opening.history) now.history

-- these are the receipts of the entries that workers on these places made behind the first ones of a history, among which a lease
-- may have been made that a worker took up
abbrev pub AreReceiptedFrom : {A : Type 0} → ℕ → List Entry → List (ℕ × ℕ) → List (Vec Receipt A) → Type 0
AreReceiptedFrom opened history places receipts = AreReceipted places opened (reverse (take opened history)) (drop opened history) (map (λ v. v.items) receipts)

-- .. since the opening
abbrev pub AreReceiptedSince : {A : Type 0} → World → World → List (ℕ × ℕ) → List (Vec Receipt A) → Type 0
AreReceiptedSince opening now places receipts = AreReceiptedFrom (length opening.history) now.history places receipts
