-- Lines of a text, and entries of a builders list, by their numbers. Public clauses cite this.
use Rattle.std.specs.Prelude.{◌≡◌, ℕ, ◌+◌, ◌-◌, ◌==◌, Bool, not, List, length, filter, Option, None, Some, Result, Ok, Err, if◌then◌else◌}
use Rattle.std.specs.List.{slice_split, slice_get, flat_map, list_any}
use Rattle.std.specs.Borrow.{Bor}
use Rattle.nd_bytes.specs.Cut.{until}
use Rattle.nd_bytes.specs.Lines.{lines_of}
use Rattle.nd_machines.specs.Fields.{is_blank}
use Rattle.nd_explain.specs.declared.parts.Part.{Part}
use Rattle.nd_explain.specs.declared.parts.Part.TheVariants.{Nowhere, Whole, Line, Entry}

-- the item with this number, the first one being 1
abbrev pub numbered : {A : Type 0} → List A → ℕ → Option A
numbered xs n = if n == 0 then None else slice_get xs (n - 1)

-- an entry has a field where one of its bytes is no blank
abbrev pub has_field : List ℕ → Bool
has_field entry = list_any (λ b. not (is_blank b)) entry

-- the entries of a line that have a field: they stand between `;` (59), once what begins at a `#` (35) is dropped
abbrev pub entries_in : List ℕ → List (List ℕ)
entries_in line = filter has_field (slice_split (λ b. b == 59) (until (λ b. b == 35) line))

-- those of all lines
unfoldable pub entries_of : List (List ℕ) → List (List ℕ)
entries_of lines = flat_map entries_in lines

-- what stands in a part of a text
abbrev pub piece_at : List ℕ → Part → Option (List ℕ)
piece_at text Nowhere = None
piece_at text Whole = Some text
piece_at text (Line n) = numbered (lines_of text) n
piece_at text (Entry n) = numbered (entries_of (lines_of text)) n

-- what a look among these for the entry before which so many stand comes to: the entry, or how many of these stand elsewhere
abbrev pub IsSought : List (List ℕ) → ℕ → Result (Bor (List ℕ)) ℕ → Type 0
IsSought entries before (Ok entry) = slice_get entries before ≡ Some entry.now
IsSought entries before (Err others) = length entries + others ≡ before
