-- A run, by what is written of it. The contract of `run_engine` cites `RunsTo` and `IsRunFault`, and with them all that stands
-- before these two; what stands behind them serves the contracts of the functions that `run_engine` is made of.
use Rattle.std.specs.Prelude.{◌≡◌, ◌⊎◌, ℕ, ◌<◌, Bool, true, List, length, drop, Option, Some, None, reverse}
use Rattle.std.specs.List.{list_any, list_all}
use Rattle.nd_devices.specs.Watched.{Watched}
use Rattle.nd_history.specs.History.{is_stop}
use Rattle.nd_history.specs.Legal.{IsLegal}
use Rattle.nd_ledger.specs.Worlds.{World}
use Rattle.nd_receipts.specs.Made.{is_quiet}
use Rattle.nd_workers.specs.declared.run_end.RunFault.{RunFault}
use Rattle.nd_workers.specs.declared.run_end.RunFault.TheVariants.{Thread as NoThread, Memory as NoMemory, Receipts as OtherReceipts, Journal as NoJournal}
use Rattle.nd_workers.specs.declared.run_end.RunError.{RunError}
use Rattle.nd_workers.specs.declared.run_end.RunError.TheVariants.{Slots, TooManySlots as TooManyWorkers, Memory as NoRoom}
use Rattle.nd_transports.specs.Calls.{State}
use Rattle.nd_workers.specs.declared.run_end.Ran.{Ran}
use Rattle.nd_workers.specs.declared.seat.Seat.{Seat}
use Rattle.nd_workers.specs.Faults.{IsFaultOf}
use Rattle.nd_workers.specs.Runs.{IsOver, Agrees, AreServed, AreReceiptedSince}
use Rattle.nd_workers.specs.Served.{places_served}
use Rattle.nd_run_desk.specs.Steps.{RunsOn}
use Rattle.nd_cli.specs.declared.fault.CliFault.{CliFault}
use Rattle.nd_cli.specs.declared.fault.CliFault.TheVariants.{Derivation, Drvs, Builders, Info, Script, Stand, History, TooLarge, TooManySlots, Read, Write, Memory, Thread, Receipts}
use Rattle.nd_run_command.specs.Ended.{WritesEnd, WritesEndPart, IsStatusOf}

-- the history is legal
abbrev pub IsLegalWorld : World → Type 0
IsLegalWorld w = IsLegal w.inputs (reverse w.history)

-- the run went on from `before` until it was over, without a stop and without a lease that no worker served
pub record IsDone (before after : World) : Type 0 where
  pub legal : IsLegalWorld after
  pub over : IsOver before after
  pub quiet : list_all is_quiet (drop (length before.history) after.history) ≡ true

-- the run went on from `before` until it was over, and was stopped
pub record IsStopped (before after : World) : Type 0 where
  pub legal : IsLegalWorld after
  pub over : IsOver before after
  pub stopped : list_any is_stop after.history ≡ true

-- the receipts weren't the entries that workers made: the run went on from `before` by what a run may add, over its inputs, and no
-- more is known
pub record IsUnreceipted (before after : World) : Type 0 where
  pub legal : IsLegalWorld after
  pub runs : RunsOn before after

-- what came back of a run of `before`, by the fault that the run ended with
abbrev pub CameBack : Option RunFault → World → World → Type 0
CameBack None before after = IsDone before after
CameBack (Some NoThread) before after = IsStopped before after
CameBack (Some NoMemory) before after = IsStopped before after
CameBack (Some NoJournal) before after = IsStopped before after
CameBack (Some OtherReceipts) before after = IsUnreceipted before after

-- a run of `before` by these workers ended so: its fault is the one whose cause stands, by the receipts and the evidence that came back; and unless
-- it is that these aren't what the history says, the receipts are the entries that workers made, and each transport was called just as they say
pub record IsRanBy {T : Type 0} (state : T → State) (before : World) (workers : List (Seat T)) (ran : Ran T) : Type 0 where
  pub fault : IsFaultOf before ran.dispatch (places_served workers) ran.receipts.items ran.evidence ran.fault
  pub receipted : Agrees ran.fault → AreReceiptedSince before ran.dispatch (places_served workers) ran.receipts.items
  pub calls : Agrees ran.fault → AreServed state before ran.dispatch workers ran.workers.items ran.receipts.items

-- a run of `before` by these workers came back with this fault and this dispatch
pub record ComesBack {T : Type 0} (state : T → State) (before : World) (workers : List (Seat T)) (fault : Option RunFault) (after : World) : Type 0 where
  pub back : CameBack fault before after
  pub ran : Ran T
  pub by : IsRanBy state before workers ran
  pub dispatch : ran.dispatch ≡ after
  pub ended : ran.fault ≡ fault

-- ---- what is written. `Back` says what is known of a fault and of the dispatch that came back with it.

-- the run ended without a fault; all of what came back was written, and this is its status
pub record RunsTo (Back : Option RunFault → World → Type 0) (report : Bool) (status : ℕ) (old new : Option (List ℕ)) : Type 0 where
  pub after : World
  pub back : Back None after
  pub writes : WritesEnd after report old new
  pub status_is : IsStatusOf after status

-- the run ended with this fault, and all of what came back was written
pub record WritesFaulty (Back : Option RunFault → World → Type 0) (fault : RunFault) (report : Bool) (old new : Option (List ℕ)) : Type 0 where
  pub after : World
  pub back : Back (Some fault) after
  pub writes : WritesEnd after report old new

-- the run ended with a fault or without one, and a part of what came back was written, from its beginning
pub record WritesTorn (Back : Option RunFault → World → Type 0) (report : Bool) (old new : Option (List ℕ)) : Type 0 where
  pub fault : Option RunFault
  pub after : World
  pub back : Back fault after
  pub part : WritesEndPart after report old new

-- Why there is no status, of a run by so many workers: the writer refused; or the run ended with a fault, and what came back was
-- written before; or there was no run, for want of memory or for too many slots, and the writer is as it was.
abbrev pub IsRunFault : {W : Type 0} → (Option RunFault → World → Type 0) → ℕ → Bool → (W → Option (List ℕ)) → Watched W → Watched W → CliFault → Type 0
IsRunFault Back workers report text old new (Derivation e) = ⊥
IsRunFault Back workers report text old new (Drvs e) = ⊥
IsRunFault Back workers report text old new (Builders e) = ⊥
IsRunFault Back workers report text old new (Info e) = ⊥
IsRunFault Back workers report text old new (Script e) = ⊥
IsRunFault Back workers report text old new (Stand e) = ⊥
IsRunFault Back workers report text old new (History e) = ⊥
IsRunFault Back workers report text old new (TooLarge place) = ⊥
IsRunFault Back workers report text old new TooManySlots = (1024 < workers) × (new ≡ old)
IsRunFault Back workers report text old new Read = ⊥
IsRunFault Back workers report text old new Write = WritesTorn Back report (text old.device) (text new.device)
IsRunFault Back workers report text old new Memory = (new ≡ old) ⊎ WritesFaulty Back NoMemory report (text old.device) (text new.device)
IsRunFault Back workers report text old new Thread = WritesFaulty Back NoThread report (text old.device) (text new.device)
IsRunFault Back workers report text old new Receipts = WritesFaulty Back OtherReceipts report (text old.device) (text new.device)

-- a run without a fault: what came back was written, and this is its status
pub record EndsIn (after : World) (fault : Option RunFault) (report : Bool) (status : ℕ) (old new : Option (List ℕ)) : Type 0 where
  pub none : fault ≡ None
  pub writes : WritesEnd after report old new
  pub status_is : IsStatusOf after status

-- what came back was written, and the run ended with this fault
pub record EndsWith (after : World) (fault : Option RunFault) (report : Bool) (what : RunFault) (old new : Option (List ℕ)) : Type 0 where
  pub some : fault ≡ Some what
  pub writes : WritesEnd after report old new

-- why what came back has no status
abbrev pub IsEndFault : World → Option RunFault → Bool → Option (List ℕ) → Option (List ℕ) → CliFault → Type 0
IsEndFault after fault report old new (Derivation e) = ⊥
IsEndFault after fault report old new (Drvs e) = ⊥
IsEndFault after fault report old new (Builders e) = ⊥
IsEndFault after fault report old new (Info e) = ⊥
IsEndFault after fault report old new (Script e) = ⊥
IsEndFault after fault report old new (Stand e) = ⊥
IsEndFault after fault report old new (History e) = ⊥
IsEndFault after fault report old new (TooLarge place) = ⊥
IsEndFault after fault report old new TooManySlots = ⊥
IsEndFault after fault report old new Read = ⊥
IsEndFault after fault report old new Write = WritesEndPart after report old new
IsEndFault after fault report old new Memory = EndsWith after fault report NoMemory old new
IsEndFault after fault report old new Thread = EndsWith after fault report NoThread old new
IsEndFault after fault report old new Receipts = EndsWith after fault report OtherReceipts old new

-- what a refused run is told as, where there was one worker for each slot
abbrev pub IsRefusedAs : RunError → CliFault → Type 0
IsRefusedAs Slots e = ⊥
IsRefusedAs TooManyWorkers e = e ≡ CliFault.TooManySlots
IsRefusedAs NoRoom e = e ≡ CliFault.Memory
