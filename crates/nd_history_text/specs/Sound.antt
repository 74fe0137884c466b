-- Which entries there are, and what the reader of a history text answers.
-- Public clauses cite this.
use Rattle.std.specs.Prelude.{◌≡◌, ℕ, ◌+◌, ◌<◌, ◌≤◌, true, List, ◌++◌, length}
use Rattle.std.specs.List.{All}
use Rattle.nd_path.specs.Refusals.{IsPath}
use Rattle.nd_path.specs.PathSets.{IsRising}
use Rattle.nd_history.specs.declared.entry.Why.{Why}
use Rattle.nd_history.specs.declared.entry.Why.TheVariants.{Status, Lost, BadReferences, NoWorker, Memory}
use Rattle.nd_history.specs.declared.entry.Entry.{Entry}
use Rattle.nd_history.specs.declared.entry.Entry.TheVariants.{Chosen, NoBuilder, Started, Down, Built, Failed, Stop, Drain, Enable}
use Rattle.nd_history_text.specs.HistoryTexts.{line_of, first_line, history_text, is_told_in}
use Rattle.nd_history_text.specs.declared.kinds.Version.{Version}
use Rattle.nd_history_text.specs.declared.history_error.HistoryError.{HistoryError}
use Rattle.nd_history_text.specs.declared.history_error.HistoryError.TheVariants.{Version as NoVersion, BadLine, Memory as NoMemory}

-- the greatest number that an entry holds
abbrev pub greatest : ℕ
greatest = 4294967295

-- a set of store paths
pub record IsPathSet (set : List (List ℕ)) : Type 0 where
  pub paths : All IsPath set
  pub rising : IsRising set

-- a status has 8 bits
abbrev pub IsSoundCause : Why → Type 0
IsSoundCause (Status c) = c ≤ 255
IsSoundCause Lost = Unit {0}
IsSoundCause BadReferences = Unit {0}
IsSoundCause NoWorker = Unit {0}
IsSoundCause Memory = Unit {0}

-- what each entry of a program is: its numbers have 32 bits, and its lists of paths are sets of store paths
abbrev pub IsSound : Entry → Type 0
IsSound (Chosen d m s) = (d ≤ greatest) × (m ≤ greatest) × (s ≤ greatest)
IsSound (NoBuilder d) = d ≤ greatest
IsSound (Started d paths) = (d ≤ greatest) × IsPathSet paths
IsSound (Down d) = d ≤ greatest
IsSound (Built d refs) = (d ≤ greatest) × All IsPathSet refs
IsSound (Failed d why) = (d ≤ greatest) × IsSoundCause why
IsSound Stop = Unit {0}
IsSound (Drain m) = m ≤ greatest
IsSound (Enable m) = m ≤ greatest

-- an entry that a text of this version may tell
pub record IsTold (version : Version) (e : Entry) : Type 0 where
  pub sound : IsSound e
  pub told : is_told_in version e ≡ true

-- the bytes are the text of these entries in one of the versions
pub record IsHistoryText (bytes : List ℕ) (entries : List Entry) : Type 0 where
  pub version : Version
  pub told : All (IsTold version) entries
  pub text : bytes ≡ history_text version entries

-- the text begins with neither first line
abbrev pub HasNoVersion : List ℕ → Type 0
HasNoVersion bytes = (version : Version) (rest : List ℕ) → bytes ≡ first_line version ++ rest → ⊥

-- the first line that is no entry's has this number, the first line of the text being 1: those before it are entries' lines,
-- and what follows them is not nothing and doesn't begin with the line of an entry
pub record IsFirstBad (bytes : List ℕ) (number : ℕ) : Type 0 where
  pub version : Version
  pub before : List Entry
  pub rest : List ℕ
  pub told : All (IsTold version) before
  pub whole : bytes ≡ history_text version before ++ rest
  pub place : number ≡ length before + 2
  pub more : 0 < length rest
  pub bad : (e : Entry) (after : List ℕ) → IsTold version e → rest ≡ line_of e ++ after → ⊥

-- when reading a text answers which refusal
abbrev pub IsRefused : List ℕ → HistoryError → Type 0
IsRefused bytes NoVersion = HasNoVersion bytes
IsRefused bytes (BadLine number) = IsFirstBad bytes number
IsRefused bytes NoMemory = Unit {0}
