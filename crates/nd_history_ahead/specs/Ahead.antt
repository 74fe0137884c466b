-- How far a history text was read.
-- No public clause cites this: it serves private clauses alone.
use Rattle.std.specs.Prelude.{◌≡◌, ℕ, ◌+◌, List, [], ◌∷◌, ◌++◌, take}
use Rattle.nd_history.specs.declared.entry.Entry.{Entry}
use Rattle.nd_history_text.specs.Sound.{IsHistoryText, IsRefused}
use Rattle.nd_history_text.specs.declared.history_error.HistoryError.{HistoryError}
use Rattle.nd_history_text.specs.declared.history_error.HistoryError.TheVariants.{Version, BadLine, Memory}
use Rattle.nd_history_ahead.specs.declared.reading.Progress.{Progress}
use Rattle.nd_history_ahead.specs.declared.reading.Progress.TheVariants.{Whole, Refused, Stopped}

-- the text is that of these entries where it was read to its end, and has this refusal where it was refused
abbrev pub IsReadTo : List ℕ → Progress → Type 0
IsReadTo text (Whole entries) = IsHistoryText text entries.items
IsReadTo text (Refused fault) = IsRefused text fault
IsReadTo text Stopped = Unit {0}

-- the bytes end with a newline
pub record IsEnded (bytes : List ℕ) : Type 0 where
  pub front : List ℕ
  pub parts : bytes ≡ front ++ 10 ∷ []

-- .. where anything stands behind them
abbrev pub IsEndedBefore : List ℕ → List ℕ → Type 0
IsEndedBefore bytes [] = Unit {0}
IsEndedBefore bytes (byte ∷ behind) = IsEnded bytes

-- the refusal of a text with the lines of so many entries between its first line and what has this one
abbrev pub moved_by : ℕ → HistoryError → HistoryError
moved_by entries Version = Version
moved_by entries (BadLine line) = BadLine (line + entries)
moved_by entries Memory = Memory

-- it is told, or none
abbrev pub IsMoved : HistoryError → ℕ → Progress → Type 0
IsMoved fault entries (Whole others) = ⊥
IsMoved fault entries (Refused other) = other ≡ moved_by entries fault
IsMoved fault entries Stopped = Unit {0}

-- the text was read up to this rest, to these entries, and begins with this first line
pub record IsReadBefore (text first rest : List ℕ) (entries : List Entry) : Type 0 where
  pub done : List ℕ
  pub parts : text ≡ done ++ rest
  pub begins : take 23 done ≡ first
  pub reads : IsHistoryText done entries

-- the entries of these lines, behind this first line, were put behind the others
pub record TakesLines (first lines : List ℕ) (old new : List Entry) : Type 0 where
  pub more : List Entry
  pub reads : IsHistoryText (first ++ lines) more
  pub grown : new ≡ old ++ more

-- a text that was read before these lines, to the entries before, was read on to this rest, to these entries
pub record GoesOn (first lines : List ℕ) (before : List Entry) (rest : List ℕ) (entries : List Entry) : Type 0 where
  pub goes : (text : List ℕ) → IsReadBefore text first lines before → IsReadBefore text first rest entries

-- .. or was read as far as this says
pub record IsReadFrom (first lines : List ℕ) (before : List Entry) (read : Progress) : Type 0 where
  pub reads : (text : List ℕ) → IsReadBefore text first lines before → IsReadTo text read
