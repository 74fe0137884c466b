-- Laws over the texts of histories.
-- Public clauses cite this.
use Rattle.std.specs.Prelude.{◌≡◌, ℕ, List}
use Rattle.std.specs.List.{All}
use Rattle.nd_history.specs.declared.entry.Entry.{Entry}
use Rattle.nd_history_text.specs.HistoryTexts.{written_text}
use Rattle.nd_history_text.specs.Sound.{IsSound, IsHistoryText}

-- what is written of a history is its text
abbrev pub ReadsBack : Type 0
ReadsBack = (entries : List Entry) → All IsSound entries → IsHistoryText (written_text entries) entries

-- a text is that of one history
abbrev pub OneHistory : Type 0
OneHistory = (bytes : List ℕ) (entries others : List Entry) → IsHistoryText bytes entries → IsHistoryText bytes others → entries ≡ others
