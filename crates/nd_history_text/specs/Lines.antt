-- A line in parts: its first word, and the words behind it.
-- Public clauses cite `spaced`; the rest serves private clauses alone.
use Rattle.std.specs.Prelude.{ℕ, List, [], ◌∷◌, codes}
use Rattle.std.specs.Fmt.{decimal}
use Rattle.std.specs.List.{flat_map}
use Rattle.nd_history.specs.declared.entry.Entry.{Entry}
use Rattle.nd_history.specs.declared.entry.Entry.TheVariants.{Chosen, NoBuilder, Started, Down, Built, Failed, Stop, Drain, Enable}
use Rattle.nd_history_text.specs.HistoryTexts.{cause_words, output_words}
use Rattle.nd_history_text.specs.declared.kinds.Kind.{Kind}
use Rattle.nd_history_text.specs.declared.kinds.Kind.TheVariants.{Choice, NoChoice, Start, Return, Finish, Failure, Halt, Drained, Enabled}

-- the first word of a line of this kind
unfoldable pub word_of : Kind → List ℕ
word_of Choice = codes "chosen"
word_of NoChoice = codes "nobuilder"
word_of Start = codes "started"
word_of Return = codes "down"
word_of Finish = codes "built"
word_of Failure = codes "failed"
word_of Halt = codes "stop"
word_of Drained = codes "drain"
word_of Enabled = codes "enable"

-- the kind of an entry's line
abbrev pub kind_of : Entry → Kind
kind_of (Chosen d m s) = Choice
kind_of (NoBuilder d) = NoChoice
kind_of (Started d paths) = Start
kind_of (Down d) = Return
kind_of (Built d refs) = Finish
kind_of (Failed d why) = Failure
kind_of Stop = Halt
kind_of (Drain m) = Drained
kind_of (Enable m) = Enabled

-- the words behind the first
abbrev pub others_of : Entry → List (List ℕ)
others_of (Chosen d m s) = decimal d ∷ decimal m ∷ decimal s ∷ []
others_of (NoBuilder d) = decimal d ∷ []
others_of (Started d paths) = decimal d ∷ paths
others_of (Down d) = decimal d ∷ []
others_of (Built d refs) = decimal d ∷ flat_map output_words refs
others_of (Failed d why) = decimal d ∷ cause_words why
others_of Stop = []
others_of (Drain m) = decimal m ∷ []
others_of (Enable m) = decimal m ∷ []

-- words, each with a space before it
unfoldable pub spaced : List (List ℕ) → List ℕ
spaced words = flat_map (λ w. 32 ∷ w) words
