-- What is noted of a turn: its lines are durable in the journal before its answer is out.
-- Public clauses cite this; `IsKeptPart` and `KeepsPart` serve private ones too.
use Rattle.std.specs.Prelude.{◌≡◌, ◌⊎◌, ℕ, ◌<◌, true, false, List, [], ◌∷◌, ◌++◌, length}
use Rattle.nd_desk.specs.declared.event.Event.{Event}
use Rattle.nd_desk.specs.declared.event.Event.TheVariants.{Appended, Synced, Answered}
use Rattle.nd_desk.specs.declared.fault.SessionFault.{SessionFault}
use Rattle.nd_desk.specs.declared.fault.SessionFault.TheVariants.{Read, Journal, Write, Memory}
use Rattle.nd_desk.specs.Notes.{Seen, Notes}

-- lines are appended to the journal, and then made durable; of no lines there is nothing to be done
abbrev pub kept : List ℕ → List Event
kept [] = []
kept (b ∷ lines) = Appended (b ∷ lines) true ∷ Synced true ∷ []

-- an answer is out
abbrev pub said : List ℕ → List Event
said answer = Answered answer true ∷ []

-- the lines first, and then the answer
abbrev pub handed : List ℕ → List ℕ → List Event
handed lines answer = kept lines ++ said answer

-- what is noted where the keeping of lines ends early by this fault
abbrev pub IsKeptPart : List ℕ → SessionFault → List Event → Type 0
IsKeptPart lines Read events = ⊥
IsKeptPart lines Journal events = (0 < length lines) × ((events ≡ Appended lines false ∷ []) ⊎ (events ≡ Appended lines true ∷ Synced false ∷ []))
IsKeptPart lines Write events = ⊥
IsKeptPart lines Memory events = (0 < length lines) × ((events ≡ []) ⊎ (events ≡ Appended lines true ∷ []))

-- .. and where the handing over of a turn does: nothing of its answer is out, unless the output refused it
abbrev pub IsHandedPart : List ℕ → List ℕ → SessionFault → List Event → Type 0
IsHandedPart lines answer Read events = ⊥
IsHandedPart lines answer Journal events = IsKeptPart lines Journal events
IsHandedPart lines answer Write events = events ≡ kept lines ++ Answered answer false ∷ []
IsHandedPart lines answer Memory events = IsKeptPart lines Memory events ⊎ (events ≡ kept lines)

-- .. of a desk of which this was seen before and after
pub record KeepsPart (old new : Seen) (lines : List ℕ) (fault : SessionFault) : Type 0 where
  pub events : List Event
  pub part : IsKeptPart lines fault events
  pub noted : Notes old new events

pub record HandsPart (old new : Seen) (lines answer : List ℕ) (fault : SessionFault) : Type 0 where
  pub events : List Event
  pub part : IsHandedPart lines answer fault events
  pub noted : Notes old new events

-- what is noted where an answer was refused, or memory was wanting for it
abbrev pub AnswersPart : Seen → Seen → List ℕ → SessionFault → Type 0
AnswersPart old new answer Read = ⊥
AnswersPart old new answer Journal = ⊥
AnswersPart old new answer Write = Notes old new (Answered answer false ∷ [])
AnswersPart old new answer Memory = Notes old new []
