-- What the words of a line are read as. `words` are those that are left of a line.
-- No public clause cites this: it serves private clauses alone.
use Rattle.std.specs.Prelude.{◌≡◌, ◌&&◌, ℕ, ◌≤◌, Bool, true, List, [], ◌∷◌, ◌++◌, nat_eq, codes, if◌then◌else◌, Option, None, Some}
use Rattle.std.specs.Borrow.{Bor}
use Rattle.std.specs.Option.{option_copied}
use Rattle.std.specs.Ordering.{is_lt}
use Rattle.nd_bytes.specs.Cut.{pieces}
use Rattle.nd_path.specs.Refusals.{IsPath}
use Rattle.nd_path.specs.StorePath.{path_cmp}
use Rattle.nd_history.specs.declared.entry.Why.TheVariants.{Lost, BadReferences, NoWorker, Memory as NoMemory}
use Rattle.nd_history_text.specs.declared.kinds.Kind.TheVariants.{Choice, NoChoice, Start, Return, Finish, Failure, Halt, Drained, Enabled}
use Rattle.std.specs.Cmp.Lexicographic.{pointwise}
use Rattle.std.specs.Fmt.{decimal}
use Rattle.std.specs.List.{All, flat_map}
use Rattle.nd_history.specs.declared.entry.Why.{Why}
use Rattle.nd_history.specs.declared.entry.Entry.{Entry}
use Rattle.nd_history_text.specs.HistoryTexts.{cause_words, output_words, words_of, line_of}
use Rattle.nd_history_text.specs.Lines.{kind_of, others_of}
use Rattle.nd_history_text.specs.Sound.{greatest, IsPathSet, IsSound, IsSoundCause, IsTold}
use Rattle.nd_history_text.specs.declared.kinds.Kind.{Kind}
use Rattle.nd_history_text.specs.declared.kinds.Version.{Version}
use Rattle.nd_path.specs.declared.path_error.PathError.{PathError}
use Rattle.nd_path.specs.declared.path_error.PathError.TheVariants.{Prefix, Digest, Name, Memory as NoPathMemory}
use Rattle.nd_history_text.specs.declared.history_error.LineError.{LineError}
use Rattle.nd_history_text.specs.declared.history_error.LineError.TheVariants.{Bad, Memory}

-- when reading a part of a line is refused: where no such part stands there, which is the cause, and at any point for want
-- of memory
abbrev pub Refuses : LineError → Type 0 → Type 0
Refuses Bad cause = cause
Refuses Memory cause = Unit {0}

-- the fault of a word that is no store path
abbrev pub path_fault : PathError → LineError
path_fault Prefix = Bad
path_fault Digest = Bad
path_fault Name = Bad
path_fault NoPathMemory = Memory

-- each path is less than the next
abbrev pub rises : List (List ℕ) → Bool
rises [] = true
rises (path ∷ []) = true
rises (path ∷ (next ∷ paths)) = is_lt (path_cmp path next) && rises (next ∷ paths)

-- the cause of one word that this word is
unfoldable pub cause_at : List ℕ → Option Why
cause_at word =
    if pointwise nat_eq word (codes "lost") then Some Lost
    else if pointwise nat_eq word (codes "references") then Some BadReferences
    else if pointwise nat_eq word (codes "noworker") then Some NoWorker
    else if pointwise nat_eq word (codes "memory") then Some NoMemory
    else None

-- the kind of line that this word begins
unfoldable pub kind_at : List ℕ → Option Kind
kind_at word =
    if pointwise nat_eq word (codes "chosen") then Some Choice
    else if pointwise nat_eq word (codes "nobuilder") then Some NoChoice
    else if pointwise nat_eq word (codes "started") then Some Start
    else if pointwise nat_eq word (codes "down") then Some Return
    else if pointwise nat_eq word (codes "built") then Some Finish
    else if pointwise nat_eq word (codes "failed") then Some Failure
    else if pointwise nat_eq word (codes "stop") then Some Halt
    else if pointwise nat_eq word (codes "drain") then Some Drained
    else if pointwise nat_eq word (codes "enable") then Some Enabled
    else None

-- the words that are left of a line
abbrev pub words_left : Option (Bor (List ℕ)) → List (List ℕ)
words_left left = pieces 32 (option_copied left)

-- the first of the words is this number
pub record IsNumberFirst (words : List (List ℕ)) (n : ℕ) (rest : List (List ℕ)) : Type 0 where
  pub small : n ≤ greatest
  pub whole : words ≡ decimal n ∷ rest

-- the first of the words is no number
abbrev pub HasNoNumberFirst : List (List ℕ) → Type 0
HasNoNumberFirst words = (n : ℕ) (rest : List (List ℕ)) → IsNumberFirst words n rest → ⊥

-- the words end, or go on with the references of an output
abbrev pub is_end : List (List ℕ) → Bool
is_end [] = true
is_end (word ∷ rest) = pointwise nat_eq word (codes "o")

-- the first of the words, up to an end, are this set of paths
pub record ArePathsFirst (words paths rest : List (List ℕ)) : Type 0 where
  pub set : IsPathSet paths
  pub whole : words ≡ paths ++ rest
  pub end : is_end rest ≡ true

-- the first of the words, up to an end, are these paths, in any order
pub record ArePathWords (words done rest : List (List ℕ)) : Type 0 where
  pub paths : All IsPath done
  pub whole : words ≡ done ++ rest
  pub end : is_end rest ≡ true

-- the words are the references of these outputs
pub record AreOutputs (words : List (List ℕ)) (refs : List (List (List ℕ))) : Type 0 where
  pub sets : All IsPathSet refs
  pub whole : words ≡ flat_map output_words refs

-- the words say why a lease ended
pub record IsCause (words : List (List ℕ)) (why : Why) : Type 0 where
  pub sound : IsSoundCause why
  pub whole : words ≡ cause_words why

-- the words are those behind the first of a line of this kind
pub record IsEntryOf (kind : Kind) (words : List (List ℕ)) (e : Entry) : Type 0 where
  pub sound : IsSound e
  pub of_kind : kind_of e ≡ kind
  pub whole : words ≡ others_of e

-- the bytes begin with an entry's line
pub record IsLineFirst (version : Version) (bytes : List ℕ) (e : Entry) (rest : List ℕ) : Type 0 where
  pub told : IsTold version e
  pub whole : bytes ≡ line_of e ++ rest

-- the words are those of an entry's line
pub record IsEntryWords (version : Version) (words : List (List ℕ)) (e : Entry) : Type 0 where
  pub told : IsTold version e
  pub whole : words ≡ words_of e
