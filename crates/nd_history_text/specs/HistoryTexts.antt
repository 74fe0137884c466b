-- The text of a history. The form is this project's own choice: a first line with the version, then a line for each
-- entry, oldest first. The words of a line stand with single spaces between them, and each line ends with a newline.
-- A number is decimal without needless zeros. Derivations are numbered from 0, machine 0 is the local one, and slots are
-- numbered from 0.
-- Public clauses cite this.
use Rattle.std.specs.Prelude.{ℕ, Bool, true, false, not, List, [], ◌∷◌, ◌++◌, codes, if◌then◌else◌}
use Rattle.std.specs.Fmt.{decimal}
use Rattle.std.specs.List.{flat_map, join_with_byte, list_any}
use Rattle.nd_history.specs.declared.entry.Why.{Why}
use Rattle.nd_history.specs.declared.entry.Why.TheVariants.{Status, Lost, BadReferences, NoWorker, Memory}
use Rattle.nd_history.specs.declared.entry.Entry.{Entry}
use Rattle.nd_history.specs.declared.entry.Entry.TheVariants.{Chosen, NoBuilder, Started, Down, Built, Failed, Stop, Drain, Enable}
use Rattle.nd_history_text.specs.declared.kinds.Version.{Version}
use Rattle.nd_history_text.specs.declared.kinds.Version.TheVariants.{First, Second}

-- why a lease ended without its outputs
abbrev pub cause_words : Why → List (List ℕ)
cause_words (Status c) = codes "status" ∷ decimal c ∷ []
cause_words Lost = codes "lost" ∷ []
cause_words BadReferences = codes "references" ∷ []
cause_words NoWorker = codes "noworker" ∷ []
cause_words Memory = codes "memory" ∷ []

-- the references of one output
abbrev pub output_words : List (List ℕ) → List (List ℕ)
output_words refs = codes "o" ∷ refs

-- the words of an entry's line
abbrev pub words_of : Entry → List (List ℕ)
words_of (Chosen d m s) = codes "chosen" ∷ decimal d ∷ decimal m ∷ decimal s ∷ []
words_of (NoBuilder d) = codes "nobuilder" ∷ decimal d ∷ []
words_of (Started d paths) = codes "started" ∷ decimal d ∷ paths
words_of (Down d) = codes "down" ∷ decimal d ∷ []
words_of (Built d refs) = codes "built" ∷ decimal d ∷ flat_map output_words refs
words_of (Failed d why) = codes "failed" ∷ decimal d ∷ cause_words why
words_of Stop = codes "stop" ∷ []
words_of (Drain m) = codes "drain" ∷ decimal m ∷ []
words_of (Enable m) = codes "enable" ∷ decimal m ∷ []

-- an entry's line
unfoldable pub line_of : Entry → List ℕ
line_of e = join_with_byte 32 (words_of e) ++ 10 ∷ []

-- the line that a text of this version begins with
unfoldable pub first_line : Version → List ℕ
first_line First = codes "nix-dispatch-history 1" ++ 10 ∷ []
first_line Second = codes "nix-dispatch-history 2" ++ 10 ∷ []

-- the text of a history in this version
abbrev pub history_text : Version → List Entry → List ℕ
history_text version entries = first_line version ++ flat_map line_of entries

-- machines that are drained and enabled are told of in the second version alone
abbrev pub is_told_in : Version → Entry → Bool
is_told_in First (Drain m) = false
is_told_in First (Enable m) = false
is_told_in version _ = true

-- the version in which a history is written: the second where it has an entry that the first doesn't tell
abbrev pub version_of : List Entry → Version
version_of entries = if list_any (λ e. not (is_told_in First e)) entries then Second else First

-- what is written of a history
abbrev pub written_text : List Entry → List ℕ
written_text entries = history_text (version_of entries) entries
