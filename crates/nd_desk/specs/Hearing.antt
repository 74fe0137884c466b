-- What a desk hears: the lines of its input, each of which ends with a newline. What stands behind the last newline of an input is no line, so that
-- a line of which only a part was written is none. This project's own choice, as of a journal.
-- Public clauses cite this.
use Rattle.std.specs.Prelude.{◌≡◌, ◌≢◌, ℕ, List, [], ◌∷◌, ◌++◌, Option, None, Some}
use Rattle.std.specs.Io.KnownBytes.{Consumes}
use Rattle.std.specs.List.{All, flat_map}
use Rattle.nd_desk.specs.declared.event.Event.{Event}
use Rattle.nd_desk.specs.declared.event.Event.TheVariants.{Heard, Ended, Unheard, Appended, Synced, Answered}
use Rattle.nd_desk.specs.Notes.{Seen}

-- a line, and its newline
abbrev pub line_with : List ℕ → List ℕ
line_with line = line ++ 10 ∷ []

-- bytes without a newline
abbrev pub IsPlain : List ℕ → Type 0
IsPlain bytes = All (λ b. b ≢ 10) bytes

-- ---- one read

-- a line was read with its newline, and no more
pub record IsLineRead (text line : List ℕ) (left : Option (List ℕ)) : Type 0 where
  pub plain : IsPlain line
  pub read : Consumes (Some text) left (line_with line)

-- no line is left
pub record HasNoLine (text : List ℕ) : Type 0 where
  pub plain : IsPlain text

-- What a read comes to where it is known what the input has left, and that is the next line: none where there is no newline any more, whatever
-- stands there.
abbrev pub IsLineHeard : Option (List ℕ) → Option (List ℕ) → Option (List ℕ) → Type 0
IsLineHeard None left line = Unit {0}
IsLineHeard (Some text) left (Some line) = IsLineRead text line left
IsLineHeard (Some text) left None = HasNoLine text

-- .. of a desk
abbrev pub HearsNext : Seen → Seen → Option (List ℕ) → Type 0
HearsNext old new line = IsLineHeard old.left new.left line

-- nothing was read of the input
abbrev pub HearsNothing : Seen → Seen → Type 0
HearsNothing old new = new.left ≡ old.left

-- ---- one read after another

-- the lines that were heard
abbrev pub lines_by : Event → List (List ℕ)
lines_by (Heard line) = line ∷ []
lines_by Ended = []
lines_by Unheard = []
lines_by (Appended bytes done) = []
lines_by (Synced done) = []
lines_by (Answered bytes done) = []

abbrev pub lines_heard : List Event → List (List ℕ)
lines_heard events = flat_map lines_by events

-- their text, each with its newline
abbrev pub text_of : List (List ℕ) → List ℕ
text_of lines = flat_map line_with lines

-- these lines were read, each with its newline, and no more
pub record HasRead (text : List ℕ) (left : Option (List ℕ)) (events : List Event) : Type 0 where
  pub read : Consumes (Some text) left (text_of (lines_heard events))
  pub plain : All IsPlain (lines_heard events)

-- .. where it is known what was left. Private clauses cite this.
abbrev pub HearsSoFar : Option (List ℕ) → Option (List ℕ) → List Event → Type 0
HearsSoFar None left events = Unit {0}
HearsSoFar (Some text) left events = HasRead text left events

-- what the input had left begins with the lines that were heard, each with its newline
pub record BeginsWithHeard (text : List ℕ) (events : List Event) : Type 0 where
  pub rest : List ℕ
  pub whole : text ≡ text_of (lines_heard events) ++ rest
  pub plain : All IsPlain (lines_heard events)

-- .. where that is known
abbrev pub AreHeard : Option (List ℕ) → List Event → Type 0
AreHeard None events = Unit {0}
AreHeard (Some text) events = BeginsWithHeard text events

-- .. and where its end was met behind them, no line is left
pub record IsHeardOut (text : List ℕ) (events last : List Event) : Type 0 where
  pub heard : BeginsWithHeard text events
  pub none : last ≡ Ended ∷ [] → HasNoLine heard.rest

abbrev pub AreAllHeard : Option (List ℕ) → List Event → List Event → Type 0
AreAllHeard None events last = Unit {0}
AreAllHeard (Some text) events last = IsHeardOut text events last
