-- The rule of a book of entries: its word holds how many there are. Private clauses cite this.
use Rattle.std.specs.Prelude.{ℕ, ◌≡◌, ◌==◌, true, List, [], ◌∷◌, ◌++◌, length, MatchBool}
use Rattle.logbook.specs.Pages.{Cell, Step, View, Book, Named}
use Rattle.nd_history.specs.declared.entry.Entry.{Entry}

-- a book begins with two words: the first one counts the entries, and the second one isn't used
pub record IsCounted (cells : List Cell) (log : List Entry) : Type 0 where
  pub words : cells ≡ (length log, true) ∷ (0, true) ∷ []

-- the word that counts the entries of this book
abbrev pub counter_of : Book → Named
counter_of book = record { tracked = true; key = 0; book = book }

-- the entry that was asked for stands behind all that were seen; or the word held another number, and as many are seen now
abbrev pub Enters : Step Entry → View Entry ℕ → ℕ → View Entry ℕ → Type 0
Enters step before found after = MatchBool (found == step.old) (after.0 ≡ before.0 ++ step.ask ∷ []) (length after.0 ≡ found)
