-- A session: the steps of the pump before the first line, and then one turn after another. Of each turn its line is heard, then its entries
-- are appended to the journal and made durable, and then it is answered; and only then is the next line heard. Histories stand oldest
-- first.
-- Public clauses cite this.
use Rattle.std.specs.Prelude.{◌≡◌, ◌⊎◌, ℕ, ◌≤◌, Bool, true, false, List, [], ◌∷◌, ◌++◌, length}
use Rattle.std.specs.List.{All, flat_map}
use Rattle.std.specs.Io.KnownBytes.{Appends}
use Rattle.nd_desk.specs.declared.event.Event.{Event}
use Rattle.nd_desk.specs.declared.event.Event.TheVariants.{Heard, Ended, Unheard}
use Rattle.nd_desk.specs.declared.fault.SessionFault.{SessionFault}
use Rattle.nd_desk.specs.declared.fault.SessionFault.TheVariants.{Read, Journal, Write, Memory}
use Rattle.nd_desk.specs.Handing.{handed, IsHandedPart}
use Rattle.nd_desk.specs.Hearing.{AreHeard, AreAllHeard}
use Rattle.nd_desk.specs.Notes.{Seen, Notes, answered}
use Rattle.nd_history.specs.declared.entry.Entry.{Entry}
use Rattle.nd_history.specs.Premises.{Premises}
use Rattle.nd_history_text.specs.HistoryTexts.{line_of, first_line}
use Rattle.nd_history_text.specs.Sound.{IsSound}
use Rattle.nd_history_text.specs.declared.kinds.Version.TheVariants.{Second}
use Rattle.nd_sim.specs.Runs.{IsPumped}
use Rattle.nd_serve.specs.Turns.{Turn, IsTaken, kept_text, answer_text, ready_line}

-- how many turns a session takes at most
abbrev pub most_turns : ℕ
most_turns = 18446744073709551615

-- what a journal begins with: it is a history text of the second version, in which each entry can be told
abbrev pub first_of : Bool → List ℕ
first_of true = first_line Second
first_of false = []

-- what comes before the first line: the steps of the pump, and their lines
pub record Opening : Type 0 where
  pub added : List Entry
  pub text : List ℕ

pub record IsOpening (i : Premises) (old new : List Entry) (opening : Opening) : Type 0 where
  pub pumped : IsPumped i old new opening.text
  pub grown : new ≡ old ++ opening.added
  pub sound : All IsSound opening.added

-- what the journal gets of it: the line that a journal begins with, where it has none yet, and a line for each entry
abbrev pub first_text : List ℕ → Opening → List ℕ
first_text first opening = first ++ flat_map line_of opening.added

abbrev pub opening_events : List ℕ → Opening → List Event
opening_events first opening = handed (first_text first opening) (opening.text ++ ready_line)

abbrev pub turn_events : Turn → List Event
turn_events turn = Heard turn.line ∷ handed (kept_text turn) (answer_text turn)

-- a session that began after the history `start` with a journal that still lacks the bytes `first`: its turns, the history behind them,
-- and all that was done
pub data IsSession (i : Premises) (start : List Entry) (first : List ℕ) (opening : Opening) : List Turn → List Entry → List Event → Type 0 where
  opened : (history : List Entry) → IsOpening i start history opening → IsSession i start first opening [] history (opening_events first opening)
  turned :
      (turns : List Turn) (old new : List Entry) (turn : Turn) (events : List Event)
      → IsSession i start first opening turns old events → IsTaken i old new turn
      → IsSession i start first opening (turns ++ turn ∷ []) new (events ++ turn_events turn)

-- ---- a session that ends early

-- memory was wanting before anything was done
abbrev pub IsNotBegun : SessionFault → List Event → Type 0
IsNotBegun fault events = (fault ≡ Memory) × (events ≡ [])

-- the opening, of which the handing over ends early
pub record IsOpeningHandedInPart (i : Premises) (start : List Entry) (first : List ℕ) (fault : SessionFault) (events : List Event) : Type 0 where
  pub new : List Entry
  pub opening : Opening
  pub opens : IsOpening i start new opening
  pub part : IsHandedPart (first_text first opening) (opening.text ++ ready_line) fault events

abbrev pub IsOpeningPart : Premises → List Entry → List ℕ → SessionFault → List Event → Type 0
IsOpeningPart i start first fault events = IsNotBegun fault events ⊎ IsOpeningHandedInPart i start first fault events

-- a turn, of which the handing over ends early
pub record IsTurnHandedInPart (i : Premises) (old : List Entry) (line : List ℕ) (fault : SessionFault) (events : List Event) : Type 0 where
  pub new : List Entry
  pub turn : Turn
  pub taken : IsTaken i old new turn
  pub heard : turn.line ≡ line
  pub part : IsHandedPart (kept_text turn) (answer_text turn) fault events

-- what is done of a turn behind its line
abbrev pub IsTurnPart : Premises → List Entry → List ℕ → SessionFault → List Event → Type 0
IsTurnPart i old line fault events = IsNotBegun fault events ⊎ IsTurnHandedInPart i old line fault events

-- a line was heard, and its turn ends early
pub record IsHeardInPart (i : Premises) (old : List Entry) (fault : SessionFault) (events : List Event) : Type 0 where
  pub line : List ℕ
  pub later : List Event
  pub part : IsTurnPart i old line fault later
  pub is : events ≡ Heard line ∷ later

-- a read was refused
abbrev pub IsUnheard : SessionFault → List Event → Type 0
IsUnheard fault events = (fault ≡ Read) × (events ≡ Unheard ∷ [])

-- the last turn ends early
pub data IsCut (i : Premises) (old : List Entry) (fault : SessionFault) (events : List Event) : Type 0 where
  unread : IsUnheard fault events → IsCut i old fault events
  unbegun : IsNotBegun fault events → IsCut i old fault events
  heard : IsHeardInPart i old fault events → IsCut i old fault events

-- a session, and a turn that ends early
pub record IsSessionCut (i : Premises) (start : List Entry) (first : List ℕ) (fault : SessionFault) (events : List Event) : Type 0 where
  pub opening : Opening
  pub turns : List Turn
  pub history : List Entry
  pub whole : List Event
  pub session : IsSession i start first opening turns history whole
  pub last : List Event
  pub cut : IsCut i history fault last
  pub is : events ≡ whole ++ last

-- what is done of a session that ends by this fault
abbrev pub IsSessionPart : Premises → List Entry → List ℕ → SessionFault → List Event → Type 0
IsSessionPart i start first fault events = IsOpeningPart i start first fault events ⊎ IsSessionCut i start first fault events

-- ---- what a desk has of them

-- a session, up to the end of the input; or as many turns as 64 bits count
pub record IsWhole (turns : List Turn) (last : List Event) : Type 0 where
  pub end : (last ≡ Ended ∷ []) ⊎ ((last ≡ []) × (most_turns ≤ length turns))

-- .. and the output has all that was answered behind what it held. The lines of the turns, each with its newline, are the beginning of what the
-- input had left, and where its end was met no newline stands behind them: a line without one is no command.
pub record Serves (i : Premises) (start history : List Entry) (first : List ℕ) (old new : Seen) : Type 0 where
  pub opening : Opening
  pub turns : List Turn
  pub events : List Event
  pub session : IsSession i start first opening turns history events
  pub last : List Event
  pub whole : IsWhole turns last
  pub noted : Notes old new (events ++ last)
  pub told : Appends old.told new.told (answered events)
  pub heard : AreAllHeard old.left events last

-- what the output has of a session that ends early: all that was answered, unless it refused an answer, of which it may have a part
abbrev pub TellsPart : SessionFault → Seen → Seen → List Event → Type 0
TellsPart Read old new events = Appends old.told new.told (answered events)
TellsPart Journal old new events = Appends old.told new.told (answered events)
TellsPart Write old new events = Unit {0}
TellsPart Memory old new events = Appends old.told new.told (answered events)

pub record ServesPart (i : Premises) (start : List Entry) (first : List ℕ) (old new : Seen) (fault : SessionFault) : Type 0 where
  pub events : List Event
  pub part : IsSessionPart i start first fault events
  pub noted : Notes old new events
  pub told : TellsPart fault old new events
  pub heard : AreHeard old.left events
