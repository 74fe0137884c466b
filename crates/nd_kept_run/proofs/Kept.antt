-- How a run with a journal ended, from the clauses of `run_kept`, and what is known of it once it was written of.
use Rattle.std.proofs.Common.{◌≡◌, ◌∙◌, ◌==◌, not, ℕ, ◌<◌, Bool, true, false, List, [], ◌∷◌, length, take, Option, Some, None, Vec, refl, sym, ap, subst, inl, inr, arith, eqb-true}
use Rattle.nd_cli.specs.declared.fault.CliFault.{CliFault}
use Rattle.nd_cli.specs.declared.fault.CliFault.TheVariants.{Derivation, Drvs, Builders, Info, Script, Stand, History, TooLarge, TooManySlots, Read, Write, Memory, Thread, Receipts}
use Rattle.nd_devices.specs.Watched.{Watched}
use Rattle.nd_history.specs.declared.entry.Entry.{Entry}
use Rattle.nd_keeping.specs.Scribing.{HoldsDurably, Scribing, IsScribing, journal_text}
use Rattle.nd_keeping.specs.Stored.{Stored}
use Rattle.nd_ledger.specs.Worlds.{World}
use Rattle.nd_receipts.specs.declared.receipt.Receipt.{Receipt}
use Rattle.nd_run_command.specs.Ran.{CameBack, IsRefusedAs, EndsIn, EndsWith}
use Rattle.nd_serve_command.specs.declared.fault.ServeFault.{ServeFault}
use Rattle.nd_serve_command.specs.declared.fault.ServeFault.TheVariants.{Cli, NotEmpty, InUse, Journal, JournalFailed}
use Rattle.nd_workers.specs.Faults.{IsFaultOf}
use Rattle.nd_run_desk.specs.Leaves.{IsFrontOf}
use Rattle.nd_history.specs.Premises.{Premises}
use Rattle.nd_transports.specs.Calls.{State}
use Rattle.nd_workers.specs.Runs.{IsRunRefused, Agrees, AreServedKept, AreReceiptedSince}
use Rattle.nd_workers.specs.Served.{places_served}
use Rattle.nd_workers.specs.declared.run_end.Ran.{Ran}
use Rattle.nd_workers.specs.declared.seat.Seat.{Seat}
use Rattle.nd_run_desk.specs.Written.{IsWrittenWhole}
use Rattle.nd_workers.specs.declared.run_end.Evidence.{Evidence}
use Rattle.nd_workers.specs.declared.run_end.RunError.{RunError}
use Rattle.nd_workers.specs.declared.run_end.RunError.TheVariants.{Slots, TooManySlots as TooManyWorkers, Memory as NoRoom}
use Rattle.nd_workers.specs.declared.run_end.RunFault.{RunFault}
use Rattle.nd_workers.specs.declared.run_end.RunFault.TheVariants.{Thread as NoThread, Memory as NoMemory, Receipts as OtherReceipts, Journal as NoJournal}
use Rattle.nd_kept_run.specs.KeptRuns.{HoldsHistory, HoldsRun, ComesBackKept, CameBackHeld, RunsKept, EndsKeptFaulty, IsKeptFault, IsEndFault}

-- ---- how it begins

-- all of a history is its first entries
pub front_whole : (front history : List Entry) → front ≡ history → IsFrontOf front history
front_whole front history same = subst (λ (l : List Entry). IsFrontOf l history) (sym same) (record { is = take_length history })
  where
    take_length : (l : List Entry) → take (length l) l ≡ l
    take_length [] = refl
    take_length (e ∷ l) = ap (λ (rest : List Entry). e ∷ rest) (take_length l)

no_entry : (history : List Entry) → length history ≡ 0 → history ≡ []
no_entry [] none = refl
no_entry (e ∷ history) none = cc

-- nothing is gone on from: there is no entry
pub none_begun : (kept : ℕ) (begun : Bool) (history : List Entry) → (kept ≡ 0 → length history ≡ 0) → begun ≡ not (kept == 0) → begun ≡ false → history ≡ []
none_begun kept begun history opened is fresh = no_entry history (opened (eqb-true kept 0 (by (kept == 0) (sym is ∙ fresh))))
  where
    by : (t : Bool) → not t ≡ false → t ≡ true
    by true h = refl
    by false h = sym h

-- ---- what the journal holds

-- what a scribe keeps is what its journal holds, unless that refused
pub journal_held : (s : Scribing) (stored : Option Stored) → IsScribing s → stored ≡ s.stored → s.refused ≡ false → HoldsHistory stored s.kept.entries
journal_held s stored scribing is willing = record {
  begun = s.begun;
  none = scribing.unbegun;
  text = subst (λ (h : Option Stored). HoldsDurably h (journal_text s.begun s.kept.entries)) (sym is) (scribing.durable willing);
}

run_held : (stored : Option Stored) (after : World) (s : Scribing) → (s.refused ≡ false → HoldsHistory stored s.kept.entries) → IsWrittenWhole s after.history → HoldsHistory stored after.history
run_held stored after s held written = subst (HoldsHistory stored) written.whole (held written.willing)

pub held_by : {A : Type 0} (before after : World) (places : List (ℕ × ℕ)) (receipts : List (Vec Receipt A)) (evidence : Evidence) (fault : Option RunFault) (s : Scribing) (stored : Option Stored)
    → IsFaultOf before after places receipts evidence fault → (evidence.kept ≡ true → IsWrittenWhole s after.history) → (s.refused ≡ false → HoldsHistory stored s.kept.entries) → HoldsRun fault stored after
held_by before after places receipts evidence None s stored by written held = run_held stored after s held (written by.cause.1)
held_by before after places receipts evidence (Some NoThread) s stored by written held = run_held stored after s held (written by.cause.1)
held_by before after places receipts evidence (Some NoMemory) s stored by written held = run_held stored after s held (written by.cause.1)
held_by before after places receipts evidence (Some OtherReceipts) s stored by written held = tt
held_by before after places receipts evidence (Some NoJournal) s stored by written held = tt

-- ---- what is written

-- what came back of a run, with what came back of its workers
pub comes_back_kept : {T : Type 0} (state : T → State) (scribe : Scribing) (before : World) (workers : List (Seat T)) (ran : Ran T) → CameBack ran.fault before ran.dispatch
    → IsFaultOf before ran.dispatch (places_served workers) ran.receipts.items ran.evidence ran.fault → (Agrees ran.fault → AreReceiptedSince before ran.dispatch (places_served workers) ran.receipts.items)
    → (Agrees ran.fault → AreServedKept scribe state before ran.dispatch workers ran.workers.items ran.receipts.items) → ComesBackKept state scribe before workers ran.fault ran.dispatch
comes_back_kept state scribe before workers ran back fault receipted calls = record { back = back; ran = ran; by = record { fault = fault; receipted = receipted; calls = calls }; dispatch = refl; ended = refl }

-- a status is that of a run without a fault
pub runs_kept : (Back : Option RunFault → World → Type 0) (after : World) (fault : Option RunFault) (report : Bool) (status : ℕ) (stored : Option Stored) (old new : Option (List ℕ)) → CameBackHeld Back fault after stored
    → EndsIn after fault report status old new → RunsKept Back report status stored old new
runs_kept Back after fault report status stored old new back ends = record {
  after = after;
  back = subst (λ f. CameBackHeld Back f after stored) ends.none back;
  writes = ends.writes;
  status_is = ends.status_is;
}

faulty : (Back : Option RunFault → World → Type 0) (after : World) (fault : Option RunFault) (report : Bool) (what : RunFault) (stored : Option Stored) (old new : Option (List ℕ)) → CameBackHeld Back fault after stored
    → EndsWith after fault report what old new → EndsKeptFaulty Back what report stored old new
faulty Back after fault report what stored old new back ends = record {
  after = after;
  back = subst (λ f. CameBackHeld Back f after stored) ends.some back;
  writes = ends.writes;
}

-- a fault is that of the run, or of the writer
pub kept_fault : {W : Type 0} (Back : Option RunFault → World → Type 0) (after : World) (fault : Option RunFault) (workers : ℕ) (report : Bool) (held stored : Option Stored) (text : W → Option (List ℕ)) (old new : Watched W) (e : ServeFault)
    → CameBackHeld Back fault after stored → IsEndFault after fault report (text old.device) (text new.device) e → IsKeptFault Back workers report held stored text old new e
kept_fault Back after fault workers report held stored text old new (Cli (Derivation e)) back ends = ends
kept_fault Back after fault workers report held stored text old new (Cli (Drvs e)) back ends = ends
kept_fault Back after fault workers report held stored text old new (Cli (Builders e)) back ends = ends
kept_fault Back after fault workers report held stored text old new (Cli (Info e)) back ends = ends
kept_fault Back after fault workers report held stored text old new (Cli (Script e)) back ends = ends
kept_fault Back after fault workers report held stored text old new (Cli (Stand e)) back ends = ends
kept_fault Back after fault workers report held stored text old new (Cli (History e)) back ends = ends
kept_fault Back after fault workers report held stored text old new (Cli (TooLarge place)) back ends = ends
kept_fault Back after fault workers report held stored text old new (Cli TooManySlots) back ends = absurd ends
kept_fault Back after fault workers report held stored text old new (Cli Read) back ends = ends
kept_fault Back after fault workers report held stored text old new (Cli Write) back ends = record { fault = fault; after = after; back = back; part = ends }
kept_fault Back after fault workers report held stored text old new (Cli Memory) back ends = inr (faulty Back after fault report NoMemory stored (text old.device) (text new.device) back ends)
kept_fault Back after fault workers report held stored text old new (Cli Thread) back ends = faulty Back after fault report NoThread stored (text old.device) (text new.device) back ends
kept_fault Back after fault workers report held stored text old new (Cli Receipts) back ends = faulty Back after fault report OtherReceipts stored (text old.device) (text new.device) back ends
kept_fault Back after fault workers report held stored text old new NotEmpty back ends = ends
kept_fault Back after fault workers report held stored text old new InUse back ends = ends
kept_fault Back after fault workers report held stored text old new (Journal e) back ends = ends
kept_fault Back after fault workers report held stored text old new JournalFailed back ends = faulty Back after fault report NoJournal stored (text old.device) (text new.device) back ends

-- without a run the journal and the writer are as they were
pub unrun_fault : {W : Type 0} (Back : Option RunFault → World → Type 0) (i : Premises) (places : List (ℕ × ℕ)) (workers : ℕ) (report : Bool) (held stored : Option Stored) (text : W → Option (List ℕ)) (out : Watched W) (why : RunError) (e : CliFault)
    → IsRunRefused i places why → length places ≡ workers → IsRefusedAs why e → stored ≡ held → IsKeptFault Back workers report held stored text out out (Cli e)
unrun_fault Back i places workers report held stored text out Slots e refused sized told same = absurd told
unrun_fault Back i places workers report held stored text out TooManyWorkers e refused sized told same =
    let many : 1024 < workers = omega (arith, refused.1) in
    subst (λ (f : CliFault). IsKeptFault Back workers report held stored text out out (Cli f)) (sym told) (many, record { journal = same; writer = refl })
unrun_fault Back i places workers report held stored text out NoRoom e refused sized told same =
    subst (λ (f : CliFault). IsKeptFault Back workers report held stored text out out (Cli f)) (sym told) (inl (record { journal = same; writer = refl }))
