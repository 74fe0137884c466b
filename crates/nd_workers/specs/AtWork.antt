-- What is known of workers whose threads were started. It serves proofs alone.
use Rattle.std.specs.Prelude.{◌≡◌, ℕ, ◌+◌, Result, MatchResult, Vec, vec_len}
use Rattle.std.specs.declared.thread.PromisedHandle.{PromisedHandle}
use Rattle.nd_transports.specs.Calls.{State, Deed}
use Rattle.nd_run_desk.specs.declared.opened.Opened as Opened
use Rattle.nd_workers.specs.declared.seat.Seat.{Seat}
use Rattle.nd_workers.specs.declared.threads.Ended.{Ended}
use Rattle.nd_workers.specs.declared.threads.Serves.{Serves}
use Rattle.nd_workers.specs.declared.threads.Done.{Done}
use Rattle.nd_workers.specs.Served.{Seated, seat_of, IsServed, HaveServed, receipts_in}

-- this came back of the worker in its thread
abbrev pub IsDone : {L T : Type 0} {g : Opened.Ghosts L} → (ℕ → Deed → Type 0) → (T → State) → Seated → Done L T g → Type 0
IsDone Due state w d = IsServed Due w d.end (seat_of state d.seat) d.hand.notes

-- the thread is that of this worker; where it has none, the worker is done
abbrev pub IsAtWork : {L T : Type 0} {g : Opened.Ghosts L} → (ℕ → Deed → Type 0) → (T → State) → Seat T → Result (PromisedHandle (Done L T g) (Serves T)) (Done L T g) → Type 0
IsAtWork Due state w r = MatchResult r (λ h. h.promise.seat.value ≡ w) (IsDone Due state (seat_of state w))

-- all of these workers are done: the shares are one again, with `before` and a unit for each receipt that came back
pub record HaveEnded {L T A : Type 0} (Due : ℕ → Deed → Type 0) (state : T → State) (workers : Vec (Seat T) A) (before : ℕ) (ended : Ended L T) : Type 0 where
  pub parts : ended.all.parts ≡ vec_len workers + 1
  pub count : vec_len ended.stints ≡ vec_len workers
  pub amount : ended.all.amount ≡ before + receipts_in ended.stints.items
  pub each : HaveServed Due state workers.items ended.stints.items
