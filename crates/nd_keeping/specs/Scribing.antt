-- What a scribe has: the entries that were handed to a run's journal, those of them that are durable there, and the text of the others.
-- Histories stand oldest first.
-- Public clauses cite this, but for `opening_of`, which serves a private one.
use Rattle.std.specs.Prelude.{◌≡◌, ◌⊎◌, ◌≤◌, ℕ, Bool, true, false, List, [], ◌∷◌, ◌++◌, length, Option, Some, None}
use Rattle.std.specs.List.{All, flat_map}
use Rattle.nd_history.specs.declared.entry.Entry.{Entry}
use Rattle.nd_history_text.specs.HistoryTexts.{line_of, first_line, history_text}
use Rattle.nd_history_text.specs.Sound.{IsSound}
use Rattle.nd_history_text.specs.declared.kinds.Version.TheVariants.{Second}
use Rattle.nd_journal.specs.WholeLines.{IsBeginning}
use Rattle.nd_keeping.specs.Stored.{Stored, stored_with, HasPart, HoldsPart}
use Rattle.nd_keeping.specs.Listing.{Listed}

pub record Scribing : Type 0 where
  pub stored : Option Stored  -- what the journal holds, where it says that
  pub handed : Listed  -- the entries that were handed to it
  pub kept : Listed  -- those of them that are durable
  pub text : List ℕ  -- what is to be appended for the others
  pub begun : Bool  -- whether the journal has its first line
  pub refused : Bool  -- whether it refused an append or a sync

-- a scribe with these parts
abbrev pub scribing : Option Stored → Listed → Listed → List ℕ → Bool → Bool → Scribing
scribing stored handed kept text begun refused = record { stored = stored; handed = handed; kept = kept; text = text; begun = begun; refused = refused }

-- the text of a journal that has these entries: nothing, before it has its first line
abbrev pub journal_text : Bool → List Entry → List ℕ
journal_text false entries = []
journal_text true entries = history_text Second entries

-- the line that a journal begins with, where these are the first bytes that it gets
abbrev pub opening_of : Bool → List ℕ
opening_of true = first_line Second
opening_of false = []

-- what is to be appended for these entries: a line for each, behind the first line of a journal that has none yet. Nothing for no entries
abbrev pub lines_behind : Bool → List Entry → List ℕ
lines_behind begun [] = []
lines_behind false (e ∷ later) = first_line Second ++ flat_map line_of (e ∷ later)
lines_behind true (e ∷ later) = flat_map line_of (e ∷ later)

-- the journal holds this text, durable, where it says what it holds
abbrev pub HoldsDurably : Option Stored → List ℕ → Type 0
HoldsDurably None text = Unit {0}
HoldsDurably (Some stored) text = stored ≡ record { bytes = text; durable = length text }

-- the journal holds this text, durable, and behind it another one or a beginning of that, where it says what it holds
abbrev pub HoldsLeft : Option Stored → List ℕ → List ℕ → Type 0
HoldsLeft None text more = Unit {0}
HoldsLeft (Some stored) text more = HasPart (stored_with text (length text)) stored more

-- this text stands behind what the journal held, and all of it is durable, where it says what it holds
abbrev pub HoldsMore : Option Stored → Option Stored → List ℕ → Type 0
HoldsMore None new text = new ≡ None
HoldsMore (Some old) new text = new ≡ Some (record { bytes = old.bytes ++ text; durable = length (old.bytes ++ text) })

-- The kept entries begin the handed ones, and the text of the others waits. That of the kept ones is what the journal holds, durable; where
-- it refused a call, a beginning of what waits may stand behind it. Each entry reads back from its line.
pub record IsScribing (s : Scribing) : Type 0 where
  pub book : s.kept.book ≡ s.handed.book
  pub later : List Entry
  pub whole : s.handed.entries ≡ s.kept.entries ++ later
  pub sound : All IsSound s.handed.entries
  pub unbegun : s.begun ≡ false → s.kept.entries ≡ []
  pub waits : s.text ≡ lines_behind s.begun later
  pub durable : s.refused ≡ false → HoldsDurably s.stored (journal_text s.begun s.kept.entries)
  pub left : s.refused ≡ true → HoldsLeft s.stored (journal_text s.begun s.kept.entries) s.text

-- the scribe of a journal that holds the text of these entries, and to which no more were handed
pub record BeginsScribing (s : Scribing) (held : Option Stored) (is_begun : Bool) (entries : List Entry) : Type 0 where
  pub stored : s.stored ≡ held
  pub handed : s.handed.entries ≡ entries
  pub kept : s.kept ≡ s.handed
  pub text : s.text ≡ []
  pub begun : s.begun ≡ is_begun
  pub refused : s.refused ≡ false

-- these entries are handed now; what is kept and what the journal holds is as it was
pub record HasTaken (old new : Scribing) (entries : List Entry) : Type 0 where
  pub handed : new.handed ≡ record { book = old.handed.book; entries = entries }
  pub others : new ≡ record old { handed = new.handed; text = new.text }

-- all that was handed is kept, and nothing waits; the journal got the text that waited
pub record HasKept (old new : Scribing) : Type 0 where
  pub live : old.refused ≡ false
  pub kept : new.kept ≡ old.handed
  pub text : new.text ≡ []
  pub journal : HoldsMore old.stored new.stored old.text
  pub others : new ≡ record old { stored = new.stored; kept = new.kept; text = new.text; begun = new.begun }

-- the journal refused, now or before. Where it did so now, it got the text that waits or a beginning of it. All else is as it was
pub record HasRefused (old new : Scribing) : Type 0 where
  pub refused : new.refused ≡ true
  pub journal : old.refused ≡ false → HoldsPart old.stored new.stored old.text
  pub others : new ≡ record old { stored = new.stored; refused = new.refused }

-- what a crash may leave of a journal to which these entries were handed, with some of them durable: a beginning of the text of the first,
-- with all of the text of the others, which still is durable
pub record IsLeftOf (s : Scribing) (stored : Stored) : Type 0 where
  pub beginning : IsBeginning stored.bytes (history_text Second s.handed.entries)
  pub kept : IsBeginning (journal_text s.begun s.kept.entries) stored.bytes
  pub durable : length (journal_text s.begun s.kept.entries) ≤ stored.durable

-- .. where the journal says what it holds
abbrev pub LeavesPart : Scribing → Option Stored → Type 0
LeavesPart s None = Unit {0}
LeavesPart s (Some stored) = IsLeftOf s stored

-- there is nothing to do: the journal refused before, or all that was handed is kept
abbrev pub IsIdle : Scribing → Type 0
IsIdle s = (s.refused ≡ true) ⊎ (s.kept ≡ s.handed)
