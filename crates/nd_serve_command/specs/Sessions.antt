-- What `serve` begins with, and what it comes to. Histories stand oldest first.
-- Public clauses cite this, but for `ReadsAccepted`, which serves a private one.
use Rattle.std.specs.Prelude.{◌≡◌, ◌≢◌, ◌⊎◌, ℕ, ◌+◌, ◌<◌, ◌≤◌, Bool, true, false, List, [], ◌++◌, length, reverse, Option, Some, Result, Ok, Err, MatchResult}
use Rattle.nd_desk.specs.declared.event.Event.{Event}
use Rattle.nd_desk.specs.declared.fault.SessionFault.{SessionFault}
use Rattle.nd_desk.specs.Notes.{Seen}
use Rattle.nd_devices.specs.Watched.{Watched}
use Rattle.nd_history.specs.declared.entry.Entry.{Entry}
use Rattle.nd_history.specs.Premises.{Premises}
use Rattle.nd_history.specs.Legal.{IsLegal}
use Rattle.nd_history.specs.Statuses.{IsExitStatus}
use Rattle.nd_ledger.specs.Worlds.{World}
use Rattle.nd_serve_command.specs.Resumes.{IsResumable, IsResumeRefused}
use Rattle.nd_serve_command.specs.declared.resume_error.ResumeError.TheVariants.{Memory as NoRoom}
use Rattle.nd_serve.specs.Sessions.{IsSessionCut, Serves, ServesPart, first_of}
use Rattle.nd_serve.specs.SessionLaws.{IsSimulated}
use Rattle.nd_serve_command.specs.Crashes.{IsBegunWith, SurvivesCrashes}
use Rattle.nd_cli.specs.Asked.{IsAskFault}
use Rattle.std.specs.Io.KnownBytes.{Consumes, IsAtEnd}
use Rattle.nd_cli.specs.Inputs.{ReadsWhole, is_read_fault}
use Rattle.nd_cli.specs.declared.options.ParkOptions.{ParkOptions}
use Rattle.nd_cli.specs.declared.fault.Place.{Place}
use Rattle.nd_cli.specs.declared.fault.CliFault.{CliFault}
use Rattle.nd_cli.specs.declared.fault.CliFault.TheVariants.{Read, Memory, TooLarge}
use Rattle.nd_commands.specs.Opened.{HasInputs, ReadsInputs}
use Rattle.nd_serve_command.specs.Faults.{fault_of}
use Rattle.nd_serve_command.specs.declared.fault.ServeFault.{ServeFault}
use Rattle.nd_serve_command.specs.declared.fault.ServeFault.TheVariants.{Cli, NotEmpty, InUse, Journal, JournalFailed}
use Rattle.nd_serve_command.specs.declared.opened.Opened.{Opened}

-- ---- the opening

-- the most bytes that a journal may have which is gone on from or looked at
abbrev pub journal_limit : ℕ
journal_limit = 1073741824

-- a journal's bytes were read: all of them where they are within the limit, and else one byte too many
pub record ReadsJournal (old new : Option (List ℕ)) (bytes : List ℕ) : Type 0 where
  pub read : Consumes old new bytes
  pub most : length bytes ≤ journal_limit + 1
  pub whole : length bytes ≤ journal_limit → IsAtEnd new

-- why a journal wasn't read: its reader refused and is marked, or memory ran out, which is told as that of every input
abbrev pub IsJournalUnread : Bool → ServeFault → Type 0
IsJournalUnread marked (Cli fault) = fault ≡ Memory
IsJournalUnread marked JournalFailed = marked ≡ true
IsJournalUnread marked _ = ⊥

-- the answer is that the journal failed
abbrev pub is_journal_failed : {A : Type 0} → Result A ServeFault → Bool
is_journal_failed (Err JournalFailed) = true
is_journal_failed _ = false

-- a journal that is resumed from is within the limit, and one that isn't holds nothing
abbrev pub MayHold : Bool → List ℕ → Type 0
MayHold true journal = length journal ≤ journal_limit
MayHold false journal = journal ≡ []

-- .. and this one does hold something
abbrev pub HoldsSome : Bool → List ℕ → Type 0
HoldsSome resumes journal = (resumes ≡ false) × (0 < length journal)

-- .. or this one, which is resumed from, is longer than the limit
abbrev pub IsTooLong : Bool → List ℕ → Type 0
IsTooLong resumes journal = (resumes ≡ true) × (journal_limit < length journal)

-- the bundle with this text and the park of the options make these inputs, and the journal tells this legal history
pub record AcceptsSession (options : ParkOptions) (text journal : List ℕ) (resumes : Bool) (world : World) : Type 0 where
  pub inputs : HasInputs options text world.inputs
  pub may : MayHold resumes journal
  pub history : IsResumable world.inputs journal world.history

-- .. of a bundle that was read whole
pub record BeginsSession (options : ParkOptions) (journal : List ℕ) (resumes : Bool) (unread left : Option (List ℕ)) (world : World) : Type 0 where
  pub text : List ℕ
  pub read : ReadsWhole unread left text
  pub accepts : AcceptsSession options text journal resumes world

abbrev pub OpensSession : ParkOptions → List ℕ → Bool → Option (List ℕ) → Option (List ℕ) → Opened → Type 0
OpensSession options journal resumes unread left opened = BeginsSession options journal resumes unread left opened.dispatch

-- the journal isn't begun with by a fault that other commands have too: it is longer than the limit, which is told as of a history text, or
-- memory ran out, which is told only of one that may be begun with
abbrev pub IsUntaken : List ℕ → Bool → CliFault → Type 0
IsUntaken journal resumes fault = ((fault ≡ TooLarge Place.History) × IsTooLong resumes journal) ⊎ ((fault ≡ Memory) × MayHold resumes journal)

-- Why the journal isn't begun with: it holds something or is longer than the limit, or it tells no legal history. Want of memory is no refusal
-- of it.
abbrev pub IsJournalFault : Premises → List ℕ → Bool → ServeFault → Type 0
IsJournalFault i journal resumes (Cli fault) = IsUntaken journal resumes fault
IsJournalFault i journal resumes NotEmpty = HoldsSome resumes journal
IsJournalFault i journal resumes InUse = ⊥
IsJournalFault i journal resumes (Journal e) = MayHold resumes journal × (e ≢ NoRoom) × IsResumeRefused i journal e
IsJournalFault i journal resumes JournalFailed = ⊥

-- the bundle and the park are accepted, and the journal is refused for this reason
pub record RefusesJournal (options : ParkOptions) (journal : List ℕ) (resumes : Bool) (unread left : Option (List ℕ)) (fault : ServeFault) : Type 0 where
  pub inputs : Premises
  pub reads : ReadsInputs options unread left inputs
  pub refused : IsJournalFault inputs journal resumes fault

-- Why there is no session: as of `ask` the bundle or the park is refused, the reader failed and is marked, or memory ran out; or the journal
-- is refused.
abbrev pub IsOpenFault : {R : Type 0} → ParkOptions → List ℕ → Bool → (R → Option (List ℕ)) → Watched R → Watched R → ServeFault → Type 0
IsOpenFault options journal resumes remaining reader reader_after (Cli fault) =
    IsAskFault options remaining reader reader_after false fault
    ⊎ RefusesJournal options journal resumes (remaining reader.device) (remaining reader_after.device) (Cli fault)
IsOpenFault options journal resumes remaining reader reader_after NotEmpty =
    RefusesJournal options journal resumes (remaining reader.device) (remaining reader_after.device) NotEmpty
IsOpenFault options journal resumes remaining reader reader_after InUse = ⊥
IsOpenFault options journal resumes remaining reader reader_after (Journal e) =
    RefusesJournal options journal resumes (remaining reader.device) (remaining reader_after.device) (Journal e)
IsOpenFault options journal resumes remaining reader reader_after JournalFailed = ⊥

-- the answer is the reader's fault
abbrev pub is_unread : {A : Type 0} → Result A ServeFault → Bool
is_unread (Ok _) = false
is_unread (Err (Cli fault)) = is_read_fault fault
is_unread (Err _) = false

-- a reader failed, or memory ran out
abbrev pub IsDeviceFault : CliFault → Type 0
IsDeviceFault Read = Unit {0}
IsDeviceFault Memory = Unit {0}
IsDeviceFault _ = ⊥

-- the fault is one that other commands have too, and this is so of it
abbrev pub IsCommon : (CliFault → Type 0) → ServeFault → Type 0
IsCommon IsSo (Cli fault) = IsSo fault
IsCommon IsSo NotEmpty = ⊥
IsCommon IsSo InUse = ⊥
IsCommon IsSo (Journal e) = ⊥
IsCommon IsSo JournalFailed = ⊥

abbrev pub IsNoRefusal : ServeFault → Type 0
IsNoRefusal fault = IsCommon IsDeviceFault fault

-- the answer is a dispatch over these inputs with this history, unless the reader failed or memory ran out
abbrev pub BeginsUnlessDevice : Result Opened ServeFault → World → Type 0
BeginsUnlessDevice answer world = MatchResult answer (λ opened. opened.dispatch ≡ world) IsNoRefusal

-- .. wherever the reader is known to have a bundle left that is accepted, with the park and the journal
abbrev pub AnswersAcceptedSession : ParkOptions → List ℕ → Bool → Option (List ℕ) → Result Opened ServeFault → Type 0
AnswersAcceptedSession options journal resumes unread answer =
    (text : List ℕ) (world : World) → unread ≡ Some text → AcceptsSession options text journal resumes world → BeginsUnlessDevice answer world

-- .. of the bundle and the park alone
abbrev pub ReadsUnlessDevice : Result World CliFault → Premises → Type 0
ReadsUnlessDevice answer inputs = MatchResult answer (λ dispatch. dispatch.inputs ≡ inputs) IsDeviceFault

abbrev pub ReadsAccepted : ParkOptions → Option (List ℕ) → Result World CliFault → Type 0
ReadsAccepted options unread answer = (text : List ℕ) (inputs : Premises) → unread ≡ Some text → HasInputs options text inputs → ReadsUnlessDevice answer inputs

-- .. of the journal alone
abbrev pub TakesUnlessMemory : Result Opened ServeFault → List Entry → Type 0
TakesUnlessMemory answer entries = MatchResult answer (λ opened. opened.dispatch.history ≡ entries) (λ e. e ≡ Cli Memory)

abbrev pub TakesResumable : Premises → List ℕ → Bool → Result Opened ServeFault → Type 0
TakesResumable i journal resumes answer = (entries : List Entry) → MayHold resumes journal → IsResumable i journal entries → TakesUnlessMemory answer entries

-- ---- the session

-- whatever the journal held when these events began, it survives a crash at any moment of them
abbrev pub Survives : World → Bool → List Event → Type 0
Survives start fresh events =
    (base : List ℕ) → IsBegunWith start.inputs fresh base start.history → SurvivesCrashes start.inputs start.history fresh base events

-- A session from this dispatch on, with a journal that is begun or not, up to the end of the input. One that began with the empty history is
-- the simulation of its commands, with a line `ready` behind the text of the opening and of each of them; what the output is known to hold has
-- grown by all that was answered (`told` of `Serves`); the history stays legal; and whenever a crash comes, the journal is gone on from with a
-- legal history that begins with every entry that was answered.
pub record EndsSession (start : World) (fresh : Bool) (status : ℕ) (old new : Seen) : Type 0 where
  pub history : List Entry
  pub serves : Serves start.inputs start.history history (first_of fresh) old new
  pub simulated : start.history ≡ [] → IsSimulated start.inputs serves.opening serves.turns history serves.events
  pub legal : IsLegal start.inputs (reverse start.history) → IsLegal start.inputs (reverse history)
  pub exit : IsExitStatus start.inputs (reverse history) status
  pub survives : Survives start fresh (serves.events ++ serves.last)

-- what was done, taken as a session and a turn that ends early: that session is the simulation of its commands
abbrev pub IsPartSimulated : Premises → List Entry → List ℕ → SessionFault → List Event → Type 0
IsPartSimulated i start first fault events = (c : IsSessionCut i start first fault events) → IsSimulated i c.opening c.turns c.history c.whole

-- .. up to a turn that ends early: nothing of that is answered, but for a part of the answer where the output refused it. What came before it,
-- if the session began with the empty history, is the simulation of its commands.
pub record CutsSession (start : World) (fresh : Bool) (fault : ServeFault) (old new : Seen) : Type 0 where
  pub cause : SessionFault
  pub is : fault ≡ fault_of cause
  pub part : ServesPart start.inputs start.history (first_of fresh) old new cause
  pub simulated : start.history ≡ [] → IsPartSimulated start.inputs start.history (first_of fresh) cause part.events
  pub survives : Survives start fresh part.events
