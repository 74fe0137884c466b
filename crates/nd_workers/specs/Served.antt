-- What a worker is known to have done. The public clauses of a run cite `Seated`, `seat_of` and `places_served`; the others serve
-- proofs alone. This project's own choice.
use Rattle.std.specs.Prelude.{◌≡◌, ℕ, Bool, true, false, List, [], map, sum_by, length}
use Rattle.std.specs.List.{AllZip}
use Rattle.nd_history.specs.declared.entry.Entry.{Entry}
use Rattle.nd_transports.specs.Calls.{State, Deed}
use Rattle.nd_workers.specs.declared.seat.Seat.{Seat}
use Rattle.nd_workers.specs.declared.threads.Stint.{Stint}
use Rattle.nd_work.specs.declared.working.End.{End}
use Rattle.nd_work.specs.declared.working.End.TheVariants.{Again, Finished, Left, Refused}
use Rattle.nd_receipts.specs.Noted.{Noted, track, IsNotedIn}
use Rattle.nd_work.specs.Ends.{EndsWell}

-- a worker's place, and the calls of its transport
pub record Seated : Type 0 where
  pub place : ℕ × ℕ
  pub deeds : List Deed

-- .. where this is the state of a transport
abbrev pub seat_of : {T : Type 0} → (T → State) → Seat T → Seated
seat_of state w = record { place = w.place; deeds = (state w.transport).deeds }

-- the places that these workers serve
abbrev pub places_served : {T : Type 0} → List (Seat T) → List (ℕ × ℕ)
places_served workers = map (λ w. w.place) workers

-- a worker ended so, on the same place, with these notes
pub record IsServed (Due : ℕ → Deed → Type 0) (before : Seated) (how : End) (after : Seated) (notes : Noted) : Type 0 where
  pub place : after.place ≡ before.place
  pub goes : EndsWell Due how (record { receipts = []; copies = []; deeds = before.deeds }) (track notes after.deeds)

-- this came back of the worker
abbrev pub HasServed : {T : Type 0} → (ℕ → Deed → Type 0) → (T → State) → Seated → Stint T → Type 0
HasServed Due state w x = IsServed Due w x.end (seat_of state x.seat) x.notes

-- .. of each worker
abbrev pub HaveServed : {T : Type 0} → (ℕ → Deed → Type 0) → (T → State) → List (Seat T) → List (Stint T) → Type 0
HaveServed Due state workers stints = AllZip (λ w x. HasServed Due state (seat_of state w) x) workers stints

-- how many receipts came back
abbrev pub receipts_in : {T : Type 0} → List (Stint T) → ℕ
receipts_in stints = sum_by (λ x. length x.notes.receipts) stints

-- a worker ended so since an entry of its own was refused
abbrev pub is_refused : End → Bool
is_refused Again = false
is_refused Finished = false
is_refused Left = false
is_refused Refused = true

-- the worker ended as it should, and its receipts name the entries that it noted
abbrev pub IsSound : {T : Type 0} → ℕ → List Entry → Stint T → Type 0
IsSound opened history x = (x.end ≡ Refused → ⊥) × AllZip (IsNotedIn opened history) x.notes.receipts x.notes.copies
