-- What is printed of a refusal of a bundle. The names are this project's own. Cited where refusals are printed.
use Rattle.std.specs.Prelude.{ℕ, List, ◌++◌, codes}
use Rattle.std.specs.Fmt.{decimal}
use Rattle.nd_links.specs.declared.fault.GraphError.{GraphError}
use Rattle.nd_links.specs.declared.fault.GraphError.TheVariants.{BadLine, BadPath, BadDerivation, UnknownOutput, BadAttribute, WrongPath, Duplicate, MissingInput, MissingOutput, Cycle, TooMany, Memory}

-- why a bundle is refused, with its line where there is one
abbrev pub refusal_text : GraphError → List ℕ
refusal_text (BadLine number) = codes "BadLine " ++ decimal number
refusal_text (BadPath number) = codes "BadPath " ++ decimal number
refusal_text (BadDerivation number) = codes "BadDerivation " ++ decimal number
refusal_text (UnknownOutput number) = codes "UnknownOutput " ++ decimal number
refusal_text (BadAttribute number) = codes "BadAttribute " ++ decimal number
refusal_text (WrongPath number) = codes "WrongPath " ++ decimal number
refusal_text (Duplicate number) = codes "Duplicate " ++ decimal number
refusal_text (MissingInput number) = codes "MissingInput " ++ decimal number
refusal_text (MissingOutput number) = codes "MissingOutput " ++ decimal number
refusal_text Cycle = codes "Cycle"
refusal_text TooMany = codes "TooMany"
refusal_text Memory = codes "Memory"
