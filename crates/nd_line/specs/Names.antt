-- What is printed of the refusal of a line. The names are this project's own. Cited where refusals are printed.
use Rattle.std.specs.Prelude.{ℕ, List, codes}
use Rattle.nd_line.specs.declared.refusal.LineError.{LineError}
use Rattle.nd_line.specs.declared.refusal.LineError.TheVariants.{BadLine, BadPath, BadDerivation, UnknownOutput, BadAttribute, WrongPath, Memory}

-- why a line is refused
abbrev pub fault_name : LineError → List ℕ
fault_name BadLine = codes "BadLine"
fault_name BadPath = codes "BadPath"
fault_name BadDerivation = codes "BadDerivation"
fault_name UnknownOutput = codes "UnknownOutput"
fault_name BadAttribute = codes "BadAttribute"
fault_name WrongPath = codes "WrongPath"
fault_name Memory = codes "Memory"
