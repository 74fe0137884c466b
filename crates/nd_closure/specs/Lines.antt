-- When a line lists nothing.
-- No public clause cites this: it serves private clauses alone.
use Rattle.std.specs.Prelude.{ℕ, List}
use Rattle.nd_path.specs.declared.path_error.PathError.{PathError}
use Rattle.nd_path.specs.declared.path_error.PathError.TheVariants.{Prefix, Digest, Name, Memory}
use Rattle.nd_closure.specs.declared.info_error.InfoError.{InfoError}
use Rattle.nd_closure.specs.declared.info_error.InfoError.TheVariants.{BadLine, Memory as NoMemory}
use Rattle.nd_closure.specs.Info.{IsLine}

-- a refusal of a word says that the line lists nothing, and one for want of memory says nothing
abbrev pub IsBadFor : List ℕ → PathError → Type 0
IsBadFor line Prefix = (entry : List ℕ × List (List ℕ)) → IsLine line entry → ⊥
IsBadFor line Digest = (entry : List ℕ × List (List ℕ)) → IsLine line entry → ⊥
IsBadFor line Name = (entry : List ℕ × List (List ℕ)) → IsLine line entry → ⊥
IsBadFor line Memory = Unit {0}

-- the refusal of the line with this number
abbrev pub refusal_of : PathError → ℕ → InfoError
refusal_of Prefix number = BadLine number
refusal_of Digest number = BadLine number
refusal_of Name number = BadLine number
refusal_of Memory number = NoMemory
