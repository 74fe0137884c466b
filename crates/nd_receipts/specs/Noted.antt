-- What a worker notes: receipts, and beside each a copy of its entry. No clause of `run` cites these definitions: those of
-- the functions between a worker's notes and the comparison with the history do. This project's own choice.
use Rattle.std.specs.Prelude.{◌≡◌, ℕ, ◌+◌, ◌==◌, ◌≤◌, List, [], ◌∷◌, ◌++◌, ◌⊎◌, Bool, true, false, slice_get, take, reverse, Some, Vec, All}
use Rattle.std.specs.List.{AllZip}
use Rattle.nd_history.specs.declared.entry.Entry.{Entry}
use Rattle.nd_history.specs.declared.entry.Entry.TheVariants.{Chosen, NoBuilder, Started, Down, Built, Failed, Stop, Drain, Enable}
use Rattle.nd_history.specs.declared.entry.Why.{Why}
use Rattle.nd_history.specs.declared.entry.Why.TheVariants.{Status, Lost, BadReferences, NoWorker, Memory}
use Rattle.nd_history.specs.History.{is_started, ends}
use Rattle.nd_transports.specs.declared.kinds.Answer.{Answer}
use Rattle.nd_transports.specs.declared.kinds.Answer.TheVariants.{Built as AnswerBuilt, Status as AnswerStatus, Lost as AnswerLost, Memory as AnswerMemory}
use Rattle.nd_transports.specs.declared.kinds.Call.TheVariants.{Build}
use Rattle.nd_transports.specs.Calls.{State, Deed, calls_of}
use Rattle.nd_receipts.specs.declared.receipt.Behind.{Behind}
use Rattle.nd_receipts.specs.declared.receipt.Receipt.{Receipt}
use Rattle.nd_receipts.specs.declared.receipt.Kind.{Kind}
use Rattle.nd_receipts.specs.declared.receipt.Kind.TheVariants.{Started as KindStarted, Built as KindBuilt, Failed as KindFailed}
use Rattle.nd_receipts.specs.Receipts.{IsOfKind, AreCallsOf}
use Rattle.nd_receipts.specs.Standing.{is_building, ends_one}

pub record Noted : Type 0 where
  pub receipts : List Receipt
  pub copies : List Entry
  -- for how many more entries there is room
  pub room : ℕ

-- what stands behind an entry of a lease that wasn't started before the run: this many calls, with these paths of a copy
abbrev pub afresh : ℕ → List (List ℕ) → Behind
afresh n apart = record { calls = n; paths = apart; again = false }

-- .. of one that was
abbrev pub once_more : ℕ → List (List ℕ) → Behind
once_more n apart = record { calls = n; paths = apart; again = true }

-- an entry of this kind was noted with what stands behind it, and with these references
pub record HasNotedWith (old new : Noted) (of : Kind) (behind : Behind) (refs : List (List (List ℕ))) (e : Entry) : Type 0 where
  pub index : ℕ
  pub receipts : new.receipts ≡ old.receipts ++ record { index = index; kind = of; calls = behind.calls; paths = behind.paths; refs = refs; again = behind.again } ∷ []
  pub copies : new.copies ≡ old.copies ++ e ∷ []
  pub room : old.room ≤ new.room + 1

-- .. with no references
abbrev pub HasNoted : Noted → Noted → Kind → Behind → Entry → Type 0
HasNoted old new of behind e = HasNotedWith old new of behind [] e

-- a start was noted, or that there was no memory for it
abbrev pub HasBegun : Noted → Noted → ℕ → List (List ℕ) → Bool → Type 0
HasBegun old new d paths true = HasNoted old new KindStarted (afresh 2 []) (Started d paths)
HasBegun old new d paths false = HasNoted old new KindFailed (afresh 2 paths) (Failed d Memory)

-- the end of a build that reported these references was noted: its outputs with them, or that it may not have them
pub record HasJudged (old new : Noted) (d : ℕ) (behind : Behind) (refs : List (List (List ℕ))) : Type 0 where
  pub either : HasNoted old new KindBuilt behind (Built d refs) ⊎ HasNotedWith old new KindFailed behind refs (Failed d BadReferences)

-- .. or that there was no memory for them
pub record HasEnded (old new : Noted) (d : ℕ) (behind : Behind) (refs : List (List (List ℕ))) : Type 0 where
  pub either : HasJudged old new d behind refs ⊎ HasNoted old new KindFailed behind (Failed d Memory)

-- what a worker and its transport have done so far
pub record Track : Type 0 where
  pub receipts : List Receipt
  pub copies : List Entry
  pub deeds : List Deed

abbrev pub track : Noted → List Deed → Track
track notes deeds = record { receipts = notes.receipts; copies = notes.copies; deeds = deeds }

-- .. where this is the state of the transport
abbrev pub track_of : Noted → State → Track
track_of notes state = track notes state.deeds

-- ---- leases. `Due` says of each call which derivation it may be made for, and how.

-- a lease ended that its worker didn't start, after these calls: before its start, or one that was started before the run
pub record EndsUnstarted (Due : ℕ → Deed → Type 0) (r : Receipt) (e : Entry) (these : List Deed) : Type 0 where
  pub drv : ℕ
  pub ends : ends drv e ≡ true
  pub calls : AreCallsOf [] r e (calls_of these)
  pub due : All (Due drv) these

-- a lease of d ended after its start with these paths, by one build with this answer
pub record EndsStarted (d : ℕ) (paths : List (List ℕ)) (r : Receipt) (e : Entry) (answer : Answer) : Type 0 where
  pub ends : ends d e ≡ true
  pub calls : AreCallsOf (Started d paths ∷ []) r e (Build d answer ∷ [])

-- a call is a build of d with this answer
pub record IsBuildOf (Due : ℕ → Deed → Type 0) (d : ℕ) (answer : Answer) (x : Deed) : Type 0 where
  pub call : x.call ≡ Build d answer
  pub due : Due d x

-- a lease of d was started, after these calls
pub record BeginsLease (Due : ℕ → Deed → Type 0) (d : ℕ) (paths : List (List ℕ)) (r : Receipt) (e : Entry) (these : List Deed) : Type 0 where
  pub start_is : e ≡ Started d paths
  pub begins : AreCallsOf [] r e (calls_of these)
  pub due : All (Due d) these

-- a lease was started and ended: its two receipts, the entries beside them, and the calls
pub record IsServedLease (Due : ℕ → Deed → Type 0) (r q : Receipt) (start end : Entry) (deeds : List Deed) : Type 0 where
  pub drv : ℕ
  pub paths : List (List ℕ)
  pub fetched : List Deed
  pub answer : Answer
  pub last : Deed
  pub begins : BeginsLease Due drv paths r start fetched
  pub finishes : EndsStarted drv paths q end answer
  pub build : IsBuildOf Due drv answer last
  pub deeds_are : deeds ≡ fetched ++ last ∷ []

-- a lease was started, after these calls, and its worker left before its end
pub record StaysStarted (Due : ℕ → Deed → Type 0) (r : Receipt) (e : Entry) (these : List Deed) : Type 0 where
  pub drv : ℕ
  pub paths : List (List ℕ)
  pub begins : BeginsLease Due drv paths r e these

-- the receipts of leases, one lease after another, the entries beside them, and the calls
pub data AreLeases (Due : ℕ → Deed → Type 0) : List Receipt → List Entry → List Deed → Type 0 where
  none : AreLeases Due [] [] []
  unstarted : (r : Receipt) (e : Entry) (these : List Deed) (rs : List Receipt) (es : List Entry) (rest : List Deed) → EndsUnstarted Due r e these → AreLeases Due rs es rest → AreLeases Due (r ∷ rs) (e ∷ es) (these ++ rest)
  served : (r q : Receipt) (start end : Entry) (these : List Deed) (rs : List Receipt) (es : List Entry) (rest : List Deed) → IsServedLease Due r q start end these → AreLeases Due rs es rest → AreLeases Due (r ∷ q ∷ rs) (start ∷ end ∷ es) (these ++ rest)
  left : (r : Receipt) (e : Entry) (these : List Deed) (rs : List Receipt) (es : List Entry) (rest : List Deed) → StaysStarted Due r e these → AreLeases Due rs es rest → AreLeases Due (r ∷ rs) (e ∷ es) (these ++ rest)

-- one goes on from the other by leases, with the calls since then
pub record GoesOn (Due : ℕ → Deed → Type 0) (s t : Track) : Type 0 where
  pub receipts : List Receipt
  pub copies : List Entry
  pub deeds : List Deed
  pub receipts_are : t.receipts ≡ s.receipts ++ receipts
  pub copies_are : t.copies ≡ s.copies ++ copies
  pub deeds_are : t.deeds ≡ s.deeds ++ deeds
  pub agree : AreLeases Due receipts copies deeds

-- one goes on from the other by the start of a lease of d
pub record IsBegun (Due : ℕ → Deed → Type 0) (s t : Track) (d : ℕ) : Type 0 where
  pub receipt : Receipt
  pub paths : List (List ℕ)
  pub deeds : List Deed
  pub receipts_are : t.receipts ≡ s.receipts ++ receipt ∷ []
  pub copies_are : t.copies ≡ s.copies ++ Started d paths ∷ []
  pub deeds_are : t.deeds ≡ s.deeds ++ deeds
  pub agree : AreCallsOf [] receipt (Started d paths) (calls_of deeds)
  pub due : All (Due d) deeds

-- .. or, where there was no start, by a whole lease
abbrev pub HasFetched : (ℕ → Deed → Type 0) → Track → Track → ℕ → Bool → Type 0
HasFetched Due s t d true = IsBegun Due s t d
HasFetched Due s t d false = GoesOn Due s t

-- a build with this answer failed for this reason; `refs` are references that it reported and may not have
abbrev pub IsFailureBy : List (List (List ℕ)) → Answer → Why → Type 0
IsFailureBy refs answer (Status code) = answer ≡ AnswerStatus code
IsFailureBy refs answer Lost = answer ≡ AnswerLost
IsFailureBy refs answer BadReferences = answer ≡ AnswerBuilt refs
IsFailureBy refs answer Memory = ((own : List (List (List ℕ))) × (answer ≡ AnswerBuilt own)) ⊎ (answer ≡ AnswerMemory)
IsFailureBy refs answer NoWorker = ⊥

-- the entry is the end of a lease of d by a build with this answer
abbrev pub IsEndBy : ℕ → List (List (List ℕ)) → Answer → Entry → Type 0
IsEndBy d refs answer (Built e own) = (e ≡ d) × (answer ≡ AnswerBuilt own)
IsEndBy d refs answer (Failed e why) = (e ≡ d) × IsFailureBy refs answer why
IsEndBy d refs answer (Started e paths) = ⊥
IsEndBy d refs answer (Down e) = ⊥
IsEndBy d refs answer (Chosen e m s) = ⊥
IsEndBy d refs answer (NoBuilder e) = ⊥
IsEndBy d refs answer Stop = ⊥
IsEndBy d refs answer (Drain m) = ⊥
IsEndBy d refs answer (Enable m) = ⊥

-- one goes on from the other by the end of a started lease of d: one build, and the entry of how it ended, with what stands behind it
pub record IsFinished (Due : ℕ → Deed → Type 0) (s t : Track) (d : ℕ) (behind : Behind) : Type 0 where
  pub last : Deed
  pub index : ℕ
  pub of : Kind
  pub refs : List (List (List ℕ))
  pub copy : Entry
  pub answer : Answer
  pub receipts_are : t.receipts ≡ s.receipts ++ record { index = index; kind = of; calls = behind.calls; paths = behind.paths; refs = refs; again = behind.again } ∷ []
  pub copies_are : t.copies ≡ s.copies ++ copy ∷ []
  pub deeds_are : t.deeds ≡ s.deeds ++ last ∷ []
  pub build : IsBuildOf Due d answer last
  pub kind_is : IsOfKind of copy
  pub ends : IsEndBy d refs answer copy

-- one goes on from the other by the end of a lease of d that was started before the run
pub record HasEndedAgain (Due : ℕ → Deed → Type 0) (s t : Track) (d : ℕ) : Type 0 where
  pub receipt : Receipt
  pub copy : Entry
  pub deeds : List Deed
  pub receipts_are : t.receipts ≡ s.receipts ++ receipt ∷ []
  pub copies_are : t.copies ≡ s.copies ++ copy ∷ []
  pub deeds_are : t.deeds ≡ s.deeds ++ deeds
  pub again : receipt.again ≡ true
  pub ends : ends d copy ≡ true
  pub agree : AreCallsOf [] receipt copy (calls_of deeds)
  pub due : All (Due d) deeds

-- ---- compared with the history

-- behind a failure for want of memory of a lease that wasn't started before the run stands one call exactly where the lease was
-- started; `past` stands oldest first
pub record TellsStart (past : List Entry) (r : Receipt) (e : Entry) : Type 0 where
  pub each : (d : ℕ) → e ≡ Failed d Memory → r.again ≡ false → (r.calls == 1) ≡ is_started d (reverse past)

-- the receipt names the place of the entry in the history, tells of its lease's start what stands before that place, and is of a
-- lease that was started before the run exactly where the entry ends a lease of one of `these` derivations
pub record IsNotedBy (these : ℕ → Bool) (history : List Entry) (r : Receipt) (e : Entry) : Type 0 where
  pub at : slice_get history r.index ≡ Some e
  pub start : TellsStart (take r.index history) r e
  pub again : r.again ≡ ends_one these e

-- .. those that were being built behind the first `opened` entries
abbrev pub IsNotedIn : ℕ → List Entry → Receipt → Entry → Type 0
IsNotedIn opened history r e = IsNotedBy (λ d. is_building d (reverse (take opened history))) history r e

-- .. each receipt of these workers, beside the copies of their entries
pub record AreRowsNotedBy {A B : Type 0} (these : ℕ → Bool) (history : List Entry) (rows : List (Vec Receipt A)) (copies : List (Vec Entry B)) : Type 0 where
  pub each : AllZip (λ row beside. AllZip (IsNotedBy these history) row.items beside.items) rows copies

abbrev pub AreRowsNoted : {A B : Type 0} → ℕ → List Entry → List (Vec Receipt A) → List (Vec Entry B) → Type 0
AreRowsNoted opened history rows copies = AreRowsNotedBy (λ d. is_building d (reverse (take opened history))) history rows copies
