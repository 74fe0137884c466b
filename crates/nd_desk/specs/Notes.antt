-- What a desk notes: each call of it is one event behind those before, but for one that memory was wanting for; and what its output is known to
-- hold. What its input has left is `Hearing`'s. The events are this project's own.
-- Public clauses cite this.
use Rattle.std.specs.Prelude.{◌≡◌, ℕ, Bool, true, false, List, [], ◌∷◌, ◌++◌, Option, None, Some, Result, Ok, Err}
use Rattle.std.specs.List.{flat_map}
use Rattle.std.specs.Io.KnownBytes.{Appends}
use Rattle.nd_desk.specs.declared.event.Event.{Event}
use Rattle.nd_desk.specs.declared.event.Event.TheVariants.{Heard, Ended, Unheard, Appended, Synced, Answered}
use Rattle.nd_desk.specs.declared.fault.DeskFault.{DeskFault}
use Rattle.nd_desk.specs.declared.fault.DeskFault.TheVariants.{Refused, Memory}

-- What is seen of a desk: what was done to it, where that is known, the bytes that its output holds, where these are, and those that its input
-- has left, where these are.
pub record Seen : Type 0 where
  pub log : Option (List Event)
  pub told : Option (List ℕ)
  pub left : Option (List ℕ)

-- of a desk of which no more is known than what its input has left and what its output holds
abbrev pub ends_alone : Option (List ℕ) → Option (List ℕ) → Seen
ends_alone left held = record { log = None; told = held; left = left }

-- what was answered, and is out whole
abbrev pub answered_by : Event → List ℕ
answered_by (Heard line) = []
answered_by Ended = []
answered_by Unheard = []
answered_by (Appended bytes done) = []
answered_by (Synced done) = []
answered_by (Answered bytes true) = bytes
answered_by (Answered bytes false) = []

abbrev pub answered : List Event → List ℕ
answered events = flat_map answered_by events

-- this is no answer that the output refused, of which a part may be out
abbrev pub IsUnrefused : Event → Type 0
IsUnrefused (Heard line) = Unit {0}
IsUnrefused Ended = Unit {0}
IsUnrefused Unheard = Unit {0}
IsUnrefused (Appended bytes done) = Unit {0}
IsUnrefused (Synced done) = Unit {0}
IsUnrefused (Answered bytes true) = Unit {0}
IsUnrefused (Answered bytes false) = ⊥

-- .. nor is any of these
abbrev pub AreUnrefused : List Event → Type 0
AreUnrefused [] = Unit {0}
AreUnrefused (event ∷ events) = IsUnrefused event × AreUnrefused events

-- a list that is known grows by these events
abbrev pub GrowsBy : Option (List Event) → Option (List Event) → List Event → Type 0
GrowsBy None new events = Unit {0}
GrowsBy (Some log) None events = ⊥
GrowsBy (Some log) (Some longer) events = longer ≡ log ++ events

-- what the output is known to hold grows by all that was answered, where no answer was refused
abbrev pub TellsBy : Option (List ℕ) → Option (List ℕ) → List Event → Type 0
TellsBy old new events = AreUnrefused events → Appends old new (answered events)

-- these events, and no others, were noted, and the output holds what was answered by them
pub record Notes (old new : Seen) (events : List Event) : Type 0 where
  pub grown : GrowsBy old.log new.log events
  pub tells : TellsBy old.told new.told events

-- what is noted of a read
abbrev pub heard : Result (Option (List ℕ)) DeskFault → List Event
heard (Ok (Some line)) = Heard line ∷ []
heard (Ok None) = Ended ∷ []
heard (Err Refused) = Unheard ∷ []
heard (Err Memory) = []

-- what is noted of another call: its event, and whether it was done
abbrev pub tried : {A : Type 0} → Result A DeskFault → (Bool → Event) → List Event
tried (Ok _) event = event true ∷ []
tried (Err Refused) event = event false ∷ []
tried (Err Memory) event = []
