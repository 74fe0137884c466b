-- Lemmas on what came back of the workers, compared with a history.
use Rattle.std.proofs.Common.{◌≡◌, ℕ, List, [], ◌∷◌, reverse, refl, sym, subst}
use Rattle.std.specs.Prelude.{All, Vec}
use Rattle.std.specs.List.{AllZip, zip}
use Rattle.nd_history.specs.declared.entry.Entry.{Entry}
use Rattle.nd_receipts.specs.declared.receipt.Receipt.{Receipt}
use Rattle.nd_receipts.specs.Receipts.{AreCallsAt, AreCallsIn}
use Rattle.nd_receipts.specs.Receipts.AreCallsIn.{none, more}
use Rattle.nd_receipts.specs.Noted.{Noted, Track, track, GoesOn, IsNotedIn}
use Rattle.nd_receipts.proofs.Calls.{calls_in}
use Rattle.nd_work.specs.declared.working.End.{End}
use Rattle.nd_work.specs.declared.working.End.TheVariants.{Again, Finished, Left, Refused}
use Rattle.nd_work.specs.Ends.{EndsWell}
use Rattle.nd_history.specs.Statuses.{IsFinished}
use Rattle.nd_ledger.specs.Worlds.{World}
use Rattle.nd_transports.specs.Calls.{State, Deed}
use Rattle.nd_workers.specs.declared.seat.Seat.{Seat}
use Rattle.nd_workers.specs.Runs.{IsServedIn, AreServedIn, IsOver}
use Rattle.nd_workers.specs.Served.{Seated, seat_of, IsServed}
use Rattle.nd_run_desk.specs.Jobs.{IsAsked, IsDue}
use Rattle.nd_run_desk.specs.Leaves.{Keeping}
use Rattle.nd_run_desk.specs.Steps.{RunsOn}

goes_on : (Due : ℕ → Deed → Type 0) (how : End) (s t : Track) → (how ≡ Refused → ⊥) → EndsWell Due how s t → GoesOn Due s t
goes_on Due Again s t good ends = ends
goes_on Due Finished s t good ends = ends
goes_on Due Left s t good ends = ends
goes_on Due Refused s t good ends = absurd (good refl)

pub served_in : (Due : ℕ → Deed → Type 0) (opened : ℕ) (history : List Entry) (before after : Seated) (how : End) (notes : Noted) (receipts : List Receipt) → (how ≡ Refused → ⊥) → AllZip (IsNotedIn opened history) notes.receipts notes.copies → IsServed Due before how after notes → receipts ≡ notes.receipts → IsServedIn Due opened history before after receipts
served_in Due opened history before after how notes receipts good all served same =
    let on = goes_on Due how (record { receipts = []; copies = []; deeds = before.deeds }) (track notes after.deeds) good served.goes in
    let P : List Receipt → Type 0 = λ rs. AllZip (IsNotedIn opened history) rs on.copies in
    let Q : List Entry → Type 0 = λ es. AllZip (IsNotedIn opened history) notes.receipts es in
    let R : List Receipt → Type 0 = λ rs. AreCallsIn Due opened history rs on.deeds in
    record {
      place = served.place;
      deeds = on.deeds;
      grown = on.deeds_are;
      agree = subst R (sym same) (subst R (sym on.receipts_are) (calls_in Due opened history on.receipts on.copies on.deeds on.agree (subst P on.receipts_are (subst Q on.copies_are all))));
    }

pub is_over : (opening now : World) → RunsOn opening now → IsFinished now.inputs (reverse now.history) → IsOver opening now
is_over opening now runs finished = record { runs = runs; finished = finished }

-- ---- what is known of each call, in fewer words

module _ (P Q : ℕ → Deed → Type 0) (less : (d : ℕ) (x : Deed) → P d x → Q d x) where
  all_less : (d : ℕ) (xs : List Deed) → All (P d) xs → All (Q d) xs
  all_less d xs all = λ k x lt. less d _ (all k x lt)

  at_less : (opened : ℕ) (history : List Entry) (r : Receipt) (these : List Deed) → AreCallsAt P opened history r these → AreCallsAt Q opened history r these
  at_less opened history r these at = record { entry = at.entry; at = at.at; again = at.again; calls = at.calls; due = record { each = λ d own. all_less d these (at.due.each d own) } }

  in_less : (opened : ℕ) (history : List Entry) (rs : List Receipt) (xs : List Deed) → AreCallsIn P opened history rs xs → AreCallsIn Q opened history rs xs
  in_less opened history rs xs none = none
  in_less opened history rs xs (more r these rest_rs rest at tail) = more r these rest_rs rest (at_less opened history r these at) (in_less opened history rest_rs rest tail)

  one_less : (opened : ℕ) (history : List Entry) (before after : Seated) (rs : List Receipt) → IsServedIn P opened history before after rs → IsServedIn Q opened history before after rs
  one_less opened history before after rs served = record { place = served.place; deeds = served.deeds; grown = served.grown; agree = in_less opened history rs served.deeds served.agree }

  pairs_less : {T A : Type 0} (state : T → State) (opened : ℕ) (history : List Entry) (before : List (Seat T)) (pairs : List (Seat T × Vec Receipt A))
      → AllZip (λ w x. IsServedIn P opened history (seat_of state w) (seat_of state x.0) x.1.items) before pairs → AllZip (λ w x. IsServedIn Q opened history (seat_of state w) (seat_of state x.0) x.1.items) before pairs
  pairs_less state opened history [] [] all = tt
  pairs_less state opened history [] (x ∷ pairs) all = absurd all
  pairs_less state opened history (w ∷ before) [] all = absurd all
  pairs_less state opened history (w ∷ before) (x ∷ pairs) all = (one_less opened history (seat_of state w) (seat_of state x.0) x.1.items all.0, pairs_less state opened history before pairs all.1)

-- a call that was due was asked for a job of the run
asked_due : (k : Keeping) (o : World) (d : ℕ) (x : Deed) → IsDue k o d x → IsAsked o d x
asked_due k o d x due = record { drv = due.drv; job = due.may.of }

pub asked_in : {T A : Type 0} (k : Keeping) (o : World) (state : T → State) (opened : ℕ) (history : List Entry) (before after : List (Seat T)) (receipts : List (Vec Receipt A))
    → AreServedIn (IsDue k o) state opened history before after receipts → AreServedIn (IsAsked o) state opened history before after receipts
asked_in k o state opened history before after receipts served = pairs_less (IsDue k o) (IsAsked o) (asked_due k o) state opened history before (zip after receipts) served
