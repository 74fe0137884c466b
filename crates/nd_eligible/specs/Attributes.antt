-- The features that a derivation asks for, as they stand in its environment: the attribute
-- `requiredSystemFeatures` is a list of words (Nix Reference Manual, "Advanced Attributes").
-- Public clauses cite this.
use Rattle.std.specs.Prelude.{ℕ, Bool, not, ◌==◌, ◌||◌, List, length, filter}
use Rattle.std.specs.List.{slice_split}
use Rattle.nd_machines.specs.FeatureSets.{set_of}

-- space, tab, newline or return
abbrev pub is_blank : ℕ → Bool
is_blank b = b == 32 || b == 9 || b == 10 || b == 13

-- a piece that isn't empty
abbrev pub is_word : List ℕ → Bool
is_word piece = not (length piece == 0)

-- the words of a text, which blanks part
abbrev pub words_of : List ℕ → List (List ℕ)
words_of text = filter is_word (slice_split is_blank text)

-- the words as a set
abbrev pub word_set : List ℕ → List (List ℕ)
word_set text = set_of (words_of text)
