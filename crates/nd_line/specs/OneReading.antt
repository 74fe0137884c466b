-- A line says one thing. Cited by the law.
use Rattle.std.specs.Prelude.{◌≡◌, ℕ, Bool, List, ◌⊎◌, Result, Err}
use Rattle.nd_line.specs.Reads.{Reads}
use Rattle.nd_line.specs.declared.line.LineNode.{LineNode}
use Rattle.nd_line.specs.declared.refusal.LineError.{LineError}
use Rattle.nd_line.specs.declared.refusal.LineError.TheVariants.{Memory}

-- Two readings of a line are the same answer, unless one of them wants memory: the refusals exclude one another and
-- the node, and a line has one node.
abbrev pub OneReading : Type 0
OneReading =
    (check : Bool) (line : List ℕ) (one other : Result LineNode LineError) → Reads check line one → Reads check line other
    → (one ≡ Err Memory) ⊎ ((other ≡ Err Memory) ⊎ (one ≡ other))
