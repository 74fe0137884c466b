-- What is printed of a refusal of a history text. The names are this project's own.
-- Public clauses cite this.
use Rattle.std.specs.Prelude.{ℕ, List, ◌++◌, codes}
use Rattle.std.specs.Fmt.{decimal}
use Rattle.nd_history_text.specs.declared.history_error.HistoryError.{HistoryError}
use Rattle.nd_history_text.specs.declared.history_error.HistoryError.TheVariants.{Version, BadLine, Memory}

abbrev pub refusal_text : HistoryError → List ℕ
refusal_text Version = codes "Version"
refusal_text (BadLine number) = codes "BadLine " ++ decimal number
refusal_text Memory = codes "Memory"
