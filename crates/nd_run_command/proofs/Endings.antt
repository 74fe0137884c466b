-- How a run ended, from the clauses of `run`, and what is known of it once it was written of.
use Rattle.std.proofs.Common.{◌≡◌, ℕ, ◌<◌, Bool, true, List, length, map, drop, Option, Some, None, refl, subst, sym, ◌∙◌, inl, inr, arith}
use Rattle.std.specs.List.{list_any, list_all}
use Rattle.std.proofs.lemmas.List.{length-map}
use Rattle.nd_devices.specs.Watched.{Watched}
use Rattle.nd_history.specs.History.{is_stop}
use Rattle.nd_history.specs.Premises.{Premises}
use Rattle.nd_ledger.specs.Worlds.{World}
use Rattle.nd_receipts.specs.Made.{is_quiet}
use Rattle.nd_workers.specs.declared.run_end.RunFault.{RunFault}
use Rattle.nd_workers.specs.declared.run_end.RunFault.TheVariants.{Thread as NoThread, Memory as NoMemory, Receipts as OtherReceipts, Journal as NoJournal}
use Rattle.nd_workers.specs.declared.run_end.RunError.{RunError}
use Rattle.nd_workers.specs.declared.run_end.RunError.TheVariants.{Slots, TooManySlots as TooManyWorkers, Memory as NoRoom}
use Rattle.nd_transports.specs.Calls.{State}
use Rattle.nd_workers.specs.declared.run_end.Ran.{Ran}
use Rattle.nd_workers.specs.declared.seat.Seat.{Seat}
use Rattle.nd_workers.specs.Faults.{IsFaultOf}
use Rattle.nd_workers.specs.Runs.{AreManned, IsRunRefused, IsOver, Agrees, AreServed, AreReceiptedSince}
use Rattle.nd_workers.specs.Served.{places_served}
use Rattle.nd_run_desk.specs.Steps.{RunsOn}
use Rattle.nd_cli.specs.declared.fault.CliFault.{CliFault}
use Rattle.nd_cli.specs.declared.fault.CliFault.TheVariants.{Derivation, Drvs, Builders, Info, Script, Stand, History, TooLarge, TooManySlots, Read, Write, Memory, Thread, Receipts}
use Rattle.nd_run_command.specs.Ran.{IsLegalWorld, CameBack, ComesBack, RunsTo, IsRunFault, EndsIn, IsEndFault, IsRefusedAs}

-- one worker for each slot is never refused as not that
pub never_slots : (i : Premises) (places : List (ℕ × ℕ)) (why : RunError) → IsRunRefused i places why → AreManned i places → why ≡ Slots → ⊥
never_slots i places Slots refused manned is = refused manned
never_slots i places TooManyWorkers refused manned is = cc
never_slots i places NoRoom refused manned is = cc

-- what `run` says of what came back, by the fault that it ended with
pub came_back_kept : (before after : World) (fault : Option RunFault) → IsLegalWorld after → RunsOn before after → ((fault ≡ Some OtherReceipts → ⊥) → IsOver before after)
    → (fault ≡ None → list_all is_quiet (drop (length before.history) after.history) ≡ true) → (fault ≡ Some NoThread → list_any is_stop after.history ≡ true)
    → (fault ≡ Some NoMemory → list_any is_stop after.history ≡ true) → (fault ≡ Some NoJournal → list_any is_stop after.history ≡ true) → CameBack fault before after
came_back_kept before after None legal runs over quiet thread memory journal = record { legal = legal; over = over (λ is. cc); quiet = quiet refl }
came_back_kept before after (Some NoThread) legal runs over quiet thread memory journal = record { legal = legal; over = over (λ is. cc); stopped = thread refl }
came_back_kept before after (Some NoMemory) legal runs over quiet thread memory journal = record { legal = legal; over = over (λ is. cc); stopped = memory refl }
came_back_kept before after (Some NoJournal) legal runs over quiet thread memory journal = record { legal = legal; over = over (λ is. cc); stopped = journal refl }
came_back_kept before after (Some OtherReceipts) legal runs over quiet thread memory journal = record { legal = legal; runs = runs }

-- .. of a run that keeps no journal
pub came_back : (before after : World) (fault : Option RunFault) → IsLegalWorld after → RunsOn before after → ((fault ≡ Some OtherReceipts → ⊥) → IsOver before after)
    → (fault ≡ None → list_all is_quiet (drop (length before.history) after.history) ≡ true) → (fault ≡ Some NoThread → list_any is_stop after.history ≡ true)
    → (fault ≡ Some NoMemory → list_any is_stop after.history ≡ true) → (fault ≡ Some NoJournal → ⊥) → CameBack fault before after
came_back before after fault legal runs over quiet thread memory journal = came_back_kept before after fault legal runs over quiet thread memory (λ is. absurd (journal is))

-- .. with what came back of its workers
pub comes_back : {T : Type 0} (state : T → State) (before : World) (workers : List (Seat T)) (ran : Ran T) → CameBack ran.fault before ran.dispatch → IsFaultOf before ran.dispatch (places_served workers) ran.receipts.items ran.evidence ran.fault
    → (Agrees ran.fault → AreReceiptedSince before ran.dispatch (places_served workers) ran.receipts.items) → (Agrees ran.fault → AreServed state before ran.dispatch workers ran.workers.items ran.receipts.items)
    → ComesBack state before workers ran.fault ran.dispatch
comes_back state before workers ran back fault receipted calls = record { back = back; ran = ran; by = record { fault = fault; receipted = receipted; calls = calls }; dispatch = refl; ended = refl }

-- a status is that of a run without a fault
pub runs_to : (Back : Option RunFault → World → Type 0) (after : World) (fault : Option RunFault) (report : Bool) (status : ℕ) (old new : Option (List ℕ)) → Back fault after → EndsIn after fault report status old new
    → RunsTo Back report status old new
runs_to Back after fault report status old new back ends = record {
  after = after;
  back = subst (λ f. Back f after) ends.none back;
  writes = ends.writes;
  status_is = ends.status_is;
}

-- a fault is that of the run, or of the writer
pub run_fault : {W : Type 0} (Back : Option RunFault → World → Type 0) (after : World) (fault : Option RunFault) (workers : ℕ) (report : Bool) (text : W → Option (List ℕ)) (old new : Watched W) (e : CliFault) → Back fault after
    → IsEndFault after fault report (text old.device) (text new.device) e → IsRunFault Back workers report text old new e
run_fault Back after fault workers report text old new Write back ends = record { fault = fault; after = after; back = back; part = ends }
run_fault Back after fault workers report text old new Memory back ends = inr (record { after = after; back = subst (λ f. Back f after) ends.some back; writes = ends.writes })
run_fault Back after fault workers report text old new Thread back ends = record { after = after; back = subst (λ f. Back f after) ends.some back; writes = ends.writes }
run_fault Back after fault workers report text old new Receipts back ends = record { after = after; back = subst (λ f. Back f after) ends.some back; writes = ends.writes }
run_fault Back after fault workers report text old new (Derivation e) back ends = ends
run_fault Back after fault workers report text old new (Drvs e) back ends = ends
run_fault Back after fault workers report text old new (Builders e) back ends = ends
run_fault Back after fault workers report text old new (Info e) back ends = ends
run_fault Back after fault workers report text old new (Script e) back ends = ends
run_fault Back after fault workers report text old new (Stand e) back ends = ends
run_fault Back after fault workers report text old new (History e) back ends = ends
run_fault Back after fault workers report text old new (TooLarge place) back ends = ends
run_fault Back after fault workers report text old new TooManySlots back ends = absurd ends
run_fault Back after fault workers report text old new Read back ends = ends

-- without a run the writer is as it was
pub refused_fault : {W : Type 0} (Back : Option RunFault → World → Type 0) (i : Premises) (places : List (ℕ × ℕ)) (workers : ℕ) (report : Bool) (text : W → Option (List ℕ)) (out : Watched W) (why : RunError) (e : CliFault)
    → IsRunRefused i places why → length places ≡ workers → IsRefusedAs why e → IsRunFault Back workers report text out out e
refused_fault Back i places workers report text out Slots e refused sized told = absurd told
refused_fault Back i places workers report text out TooManyWorkers e refused sized told =
    let many : 1024 < workers = omega (arith, refused.1) in
    subst (IsRunFault Back workers report text out out) (sym told) (many, refl)
refused_fault Back i places workers report text out NoRoom e refused sized told = subst (IsRunFault Back workers report text out out) (sym told) (inl refl)

-- there are as many places as workers
pub so_many : {X : Type 0} (place : X → ℕ × ℕ) (workers : List X) (n : ℕ) → n ≡ length workers → length (map place workers) ≡ n
so_many place workers n counted = length-map workers place ∙ sym counted
