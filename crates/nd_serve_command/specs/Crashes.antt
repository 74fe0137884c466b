-- What a crash leaves of a journal: a file that only grows keeps what was made durable, and of what was appended since any beginning.
-- Histories stand oldest first.
-- Public clauses cite this.
use Rattle.std.specs.Prelude.{◌≡◌, ◌⊎◌, ℕ, Bool, true, false, List, [], ◌∷◌, ◌++◌, reverse}
use Rattle.std.specs.List.{All, flat_map}
use Rattle.nd_desk.specs.declared.event.Event.{Event}
use Rattle.nd_desk.specs.declared.event.Event.TheVariants.{Heard, Ended, Unheard, Appended, Synced, Answered}
use Rattle.nd_desk.specs.Notes.{answered}
use Rattle.nd_history.specs.declared.entry.Entry.{Entry}
use Rattle.nd_history.specs.Premises.{Premises}
use Rattle.nd_history.specs.Legal.{IsLegal}
use Rattle.nd_history.specs.Sameness.{BeginsWith}
use Rattle.nd_history_text.specs.HistoryTexts.{history_text}
use Rattle.nd_history_text.specs.Sound.{IsSound}
use Rattle.nd_history_text.specs.declared.kinds.Version.TheVariants.{Second}
use Rattle.nd_journal.specs.WholeLines.{IsBeginning}
use Rattle.nd_serve_command.specs.Resumes.{IsResumable}
use Rattle.nd_serve.specs.Turns.{Turn}
use Rattle.nd_serve.specs.Sessions.{Opening, IsSession, first_of}

-- what an event hands to the journal, which may have refused it, or a part of it
abbrev pub handed_by : Event → List ℕ
handed_by (Heard line) = []
handed_by Ended = []
handed_by Unheard = []
handed_by (Appended bytes done) = bytes
handed_by (Synced done) = []
handed_by (Answered bytes done) = []

abbrev pub handed_bytes : List Event → List ℕ
handed_bytes events = flat_map handed_by events

-- what a crash may leave behind these events, of which one that was refused is the last: a beginning of what was appended, with all that was
-- appended before the journal was made durable
pub record IsLeft (events : List Event) (file : List ℕ) : Type 0 where
  pub beginning : IsBeginning file (handed_bytes events)
  pub durable : (before after : List Event) → events ≡ before ++ Synced true ∷ after → IsBeginning (handed_bytes before) file

-- the bytes that a journal holds, durable, when a session begins: none, where it is fresh and nothing has happened; else the text of the history
-- that the session goes on from
abbrev pub HoldsAtFirst : Bool → List ℕ → List Entry → Type 0
HoldsAtFirst true base start = (base ≡ []) × (start ≡ [])
HoldsAtFirst false base start = base ≡ history_text Second start

-- .. and this history is a legal one, whose entries read back from their lines
pub record IsBegunWith (i : Premises) (fresh : Bool) (base : List ℕ) (start : List Entry) : Type 0 where
  pub holds : HoldsAtFirst fresh base start
  pub sound : All IsSound start
  pub legal : IsLegal i (reverse start)

-- nothing was answered by these events: what was answered before the session is what it went on from
pub record IsUnanswered (start : List Entry) (events : List Event) (history : List Entry) : Type 0 where
  pub silent : answered events ≡ []
  pub same : history ≡ start

-- the last of the answers is that of the last turn of a session that came to this history, and nothing was answered behind it
pub record IsAnsweredTo (i : Premises) (start : List Entry) (first : List ℕ) (events : List Event) (history : List Entry) : Type 0 where
  pub opening : Opening
  pub turns : List Turn
  pub front : List Event
  pub session : IsSession i start first opening turns history front
  pub later : List Event
  pub parts : events ≡ front ++ later
  pub silent : answered later ≡ []

-- the entries that the answers among these events tell of are those of this history
abbrev pub IsAnswered : Premises → List Entry → List ℕ → List Event → List Entry → Type 0
IsAnswered i start first events history = IsUnanswered start events history ⊎ IsAnsweredTo i start first events history

-- the bytes are those of a journal that is gone on from with a legal history, which begins with every entry that was answered
pub record KeepsAnswers (i : Premises) (start : List Entry) (first : List ℕ) (events : List Event) (bytes : List ℕ) : Type 0 where
  pub history : List Entry
  pub answers : IsAnswered i start first events history
  pub entries : List Entry
  pub resumable : IsResumable i bytes entries
  pub begins : BeginsWith entries history

-- .. after a crash at any moment of these events, whatever it leaves of what was appended
pub record SurvivesCrashes (i : Premises) (start : List Entry) (fresh : Bool) (base : List ℕ) (events : List Event) : Type 0 where
  pub keeps :
      (moment later : List Event) (file : List ℕ) → events ≡ moment ++ later → IsLeft moment file
      → KeepsAnswers i start (first_of fresh) moment (base ++ file)

-- ---- the journal of a run, of which at each moment some entries were handed to the journal, and some of these are durable

-- a file that has all of the text of these entries; before there is one, not even the first line has to be there
abbrev pub HasTextOf : List Entry → List ℕ → Type 0
HasTextOf [] file = Unit {0}
HasTextOf (e ∷ durable) file = IsBeginning (history_text Second (e ∷ durable)) file

-- what a crash may leave: a beginning of the text of what was handed, with all of the text of what is durable
pub record IsRunLeft (durable handed : List Entry) (file : List ℕ) : Type 0 where
  pub beginning : IsBeginning file (history_text Second handed)
  pub durable_there : HasTextOf durable file

-- the file is gone on from with a legal history, which is a beginning of what was handed and has every entry that is durable
pub record KeepsRun (i : Premises) (durable handed : List Entry) (file : List ℕ) : Type 0 where
  pub entries : List Entry
  pub resumable : IsResumable i file entries
  pub begins : BeginsWith entries durable
  pub within : BeginsWith handed entries
