-- A run with a journal, by what is written of it and by what its journal holds then. The contract of `run_kept_engine` cites `RunsKeptTo`
-- and `IsKeptFault`, and with them all that stands before these two; what stands behind them serves the contracts of the functions
-- that `run_kept_engine` is made of.
use Rattle.std.specs.Prelude.{◌≡◌, ◌⊎◌, ℕ, ◌<◌, Bool, false, List, [], Option, Some, None}
use Rattle.nd_cli.specs.declared.fault.CliFault.TheVariants.{Derivation, Drvs, Builders, Info, Script, Stand, History, TooLarge, TooManySlots, Read, Write, Memory, Thread, Receipts}
use Rattle.nd_devices.specs.Watched.{Watched}
use Rattle.nd_history.specs.declared.entry.Entry.{Entry}
use Rattle.nd_keeping.specs.Scribing.{HoldsDurably, Scribing, journal_text}
use Rattle.nd_keeping.specs.Stored.{Stored}
use Rattle.nd_ledger.specs.Worlds.{World}
use Rattle.nd_run_command.specs.Ended.{WritesEnd, WritesEndPart, IsStatusOf}
use Rattle.nd_run_command.specs.Ran.{CameBack, EndsWith}
use Rattle.nd_serve_command.specs.declared.fault.ServeFault.{ServeFault}
use Rattle.nd_serve_command.specs.declared.fault.ServeFault.TheVariants.{Cli, NotEmpty, InUse, Journal, JournalFailed}
use Rattle.nd_transports.specs.Calls.{State}
use Rattle.nd_workers.specs.Faults.{IsFaultOf}
use Rattle.nd_workers.specs.Runs.{Agrees, AreServedKept, AreReceiptedSince}
use Rattle.nd_workers.specs.Served.{places_served}
use Rattle.nd_workers.specs.declared.run_end.Ran.{Ran}
use Rattle.nd_workers.specs.declared.run_end.RunFault.{RunFault}
use Rattle.nd_workers.specs.declared.seat.Seat.{Seat}
use Rattle.nd_workers.specs.declared.run_end.RunFault.TheVariants.{Thread as NoThread, Memory as NoMemory, Receipts as OtherReceipts, Journal as NoJournal}

-- the journal holds, durable, the text of this history, where it says what it holds: its first line and a line for each entry, or nothing yet
pub record HoldsHistory (stored : Option Stored) (history : List Entry) : Type 0 where
  pub begun : Bool
  pub none : begun ≡ false → history ≡ []
  pub text : HoldsDurably stored (journal_text begun history)

-- .. that of a run, but where it refused, or where what came back isn't what the history says
abbrev pub HoldsRun : Option RunFault → Option Stored → World → Type 0
HoldsRun None stored after = HoldsHistory stored after.history
HoldsRun (Some NoThread) stored after = HoldsHistory stored after.history
HoldsRun (Some NoMemory) stored after = HoldsHistory stored after.history
HoldsRun (Some OtherReceipts) stored after = Unit {0}
HoldsRun (Some NoJournal) stored after = Unit {0}

-- a run of `before` by these workers ended so, which kept its history by this scribe: its fault is the one whose cause stands, by the receipts and the
-- evidence that came back; and unless it is that these aren't what the history says, the receipts are the entries that workers made, and each transport
-- was called just as they say, each time once what stands behind the call was durable in the scribe's journal
pub record IsKeptBy {T : Type 0} (state : T → State) (scribe : Scribing) (before : World) (workers : List (Seat T)) (ran : Ran T) : Type 0 where
  pub fault : IsFaultOf before ran.dispatch (places_served workers) ran.receipts.items ran.evidence ran.fault
  pub receipted : Agrees ran.fault → AreReceiptedSince before ran.dispatch (places_served workers) ran.receipts.items
  pub calls : Agrees ran.fault → AreServedKept scribe state before ran.dispatch workers ran.workers.items ran.receipts.items

-- a run of `before` by these workers, which kept its history by this scribe, came back with this fault and this dispatch
pub record ComesBackKept {T : Type 0} (state : T → State) (scribe : Scribing) (before : World) (workers : List (Seat T)) (fault : Option RunFault) (after : World) : Type 0 where
  pub back : CameBack fault before after
  pub ran : Ran T
  pub by : IsKeptBy state scribe before workers ran
  pub dispatch : ran.dispatch ≡ after
  pub ended : ran.fault ≡ fault

-- ---- what is written. `Back` says what is known of a fault and of the dispatch that came back with it.

-- what came back of a run that ended so, and what its journal holds
pub record CameBackHeld (Back : Option RunFault → World → Type 0) (fault : Option RunFault) (after : World) (stored : Option Stored) : Type 0 where
  pub back : Back fault after
  pub held : HoldsRun fault stored after

-- the run ended without a fault; all of what came back was written, and this is its status
pub record RunsKept (Back : Option RunFault → World → Type 0) (report : Bool) (status : ℕ) (stored : Option Stored) (old new : Option (List ℕ)) : Type 0 where
  pub after : World
  pub back : CameBackHeld Back None after stored
  pub writes : WritesEnd after report old new
  pub status_is : IsStatusOf after status

-- .. to this writer
abbrev pub RunsKeptTo : {W : Type 0} → (Option RunFault → World → Type 0) → Bool → Option Stored → (W → Option (List ℕ)) → Watched W → Watched W → ℕ → Type 0
RunsKeptTo Back report stored text old new status = RunsKept Back report status stored (text old.device) (text new.device)

-- the run ended with this fault, and all of what came back was written
pub record EndsKeptFaulty (Back : Option RunFault → World → Type 0) (fault : RunFault) (report : Bool) (stored : Option Stored) (old new : Option (List ℕ)) : Type 0 where
  pub after : World
  pub back : CameBackHeld Back (Some fault) after stored
  pub writes : WritesEnd after report old new

-- the run ended with a fault or without one, and a part of what came back was written, from its beginning
pub record EndsKeptTorn (Back : Option RunFault → World → Type 0) (report : Bool) (stored : Option Stored) (old new : Option (List ℕ)) : Type 0 where
  pub fault : Option RunFault
  pub after : World
  pub back : CameBackHeld Back fault after stored
  pub part : WritesEndPart after report old new

-- there was no run: the journal and the writer are as they were
pub record IsUnrun {W : Type 0} (held stored : Option Stored) (old new : Watched W) : Type 0 where
  pub journal : stored ≡ held
  pub writer : new ≡ old

-- Why there is no status, of a run by so many workers: the writer refused; or the run ended with a fault, that of its journal among them,
-- and what came back was written before; or there was no run, for want of memory or for too many slots.
abbrev pub IsKeptFault : {W : Type 0} → (Option RunFault → World → Type 0) → ℕ → Bool → Option Stored → Option Stored → (W → Option (List ℕ)) → Watched W → Watched W → ServeFault → Type 0
IsKeptFault Back workers report held stored text old new (Cli (Derivation e)) = ⊥
IsKeptFault Back workers report held stored text old new (Cli (Drvs e)) = ⊥
IsKeptFault Back workers report held stored text old new (Cli (Builders e)) = ⊥
IsKeptFault Back workers report held stored text old new (Cli (Info e)) = ⊥
IsKeptFault Back workers report held stored text old new (Cli (Script e)) = ⊥
IsKeptFault Back workers report held stored text old new (Cli (Stand e)) = ⊥
IsKeptFault Back workers report held stored text old new (Cli (History e)) = ⊥
IsKeptFault Back workers report held stored text old new (Cli (TooLarge place)) = ⊥
IsKeptFault Back workers report held stored text old new (Cli TooManySlots) = (1024 < workers) × IsUnrun held stored old new
IsKeptFault Back workers report held stored text old new (Cli Read) = ⊥
IsKeptFault Back workers report held stored text old new (Cli Write) = EndsKeptTorn Back report stored (text old.device) (text new.device)
IsKeptFault Back workers report held stored text old new (Cli Memory) = IsUnrun held stored old new ⊎ EndsKeptFaulty Back NoMemory report stored (text old.device) (text new.device)
IsKeptFault Back workers report held stored text old new (Cli Thread) = EndsKeptFaulty Back NoThread report stored (text old.device) (text new.device)
IsKeptFault Back workers report held stored text old new (Cli Receipts) = EndsKeptFaulty Back OtherReceipts report stored (text old.device) (text new.device)
IsKeptFault Back workers report held stored text old new NotEmpty = ⊥
IsKeptFault Back workers report held stored text old new InUse = ⊥
IsKeptFault Back workers report held stored text old new (Journal e) = ⊥
IsKeptFault Back workers report held stored text old new JournalFailed = EndsKeptFaulty Back NoJournal report stored (text old.device) (text new.device)

-- why what came back has no status
abbrev pub IsEndFault : World → Option RunFault → Bool → Option (List ℕ) → Option (List ℕ) → ServeFault → Type 0
IsEndFault after fault report old new (Cli Write) = WritesEndPart after report old new
IsEndFault after fault report old new (Cli Memory) = EndsWith after fault report NoMemory old new
IsEndFault after fault report old new (Cli Thread) = EndsWith after fault report NoThread old new
IsEndFault after fault report old new (Cli Receipts) = EndsWith after fault report OtherReceipts old new
IsEndFault after fault report old new JournalFailed = EndsWith after fault report NoJournal old new
IsEndFault after fault report old new _ = ⊥

-- what the program says of a run's fault
abbrev pub told_as : RunFault → ServeFault
told_as NoThread = Cli Thread
told_as NoMemory = Cli Memory
told_as OtherReceipts = Cli Receipts
told_as NoJournal = JournalFailed

-- .. of a run that ended with one
abbrev pub IsToldOf : Option RunFault → ServeFault → Type 0
IsToldOf None e = ⊥
IsToldOf (Some fault) e = e ≡ told_as fault
