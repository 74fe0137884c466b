-- What is printed of a refusal of an info text. The names are this project's own.
-- Public clauses cite this.
use Rattle.std.specs.Prelude.{ℕ, List, ◌++◌, codes}
use Rattle.std.specs.Fmt.{decimal}
use Rattle.nd_closure.specs.declared.info_error.InfoError.{InfoError}
use Rattle.nd_closure.specs.declared.info_error.InfoError.TheVariants.{BadLine, Memory}

abbrev pub refusal_text : InfoError → List ℕ
refusal_text (BadLine number) = codes "BadLine " ++ decimal number
refusal_text Memory = codes "Memory"
