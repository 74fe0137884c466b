-- What is read of the pieces of a bundle, and how it is put together. Serves proofs alone.
use Rattle.std.specs.Prelude.{◌≡◌, ℕ, List, ◌∷◌, ◌++◌, Result, Ok, Err, Option, Some, None}
use Rattle.std.specs.declared.alloc.AllocError.{AllocError}
use Rattle.nd_line.specs.Reads.{IsFaulty}
use Rattle.nd_line.specs.declared.refusal.LineError.{LineError}
use Rattle.nd_bundle.specs.Said.{SayColumns}
use Rattle.nd_bundle.specs.Lines.{lines}
use Rattle.nd_links.specs.declared.columns.Columns.{Columns}
use Rattle.nd_bundle.specs.declared.manner.Manner.{Manner}
use Rattle.nd_bundle.specs.declared.piece.Piece.{Piece}

-- the columns have the nodes that these lines say, up to one that is refused so
pub record IsReadUpTo (manner : Manner) (ls : List (List ℕ)) (columns : Columns) (fault : LineError) : Type 0 where
  pub before : List (List ℕ)
  pub line : List ℕ
  pub behind : List (List ℕ)
  pub parts : ls ≡ before ++ line ∷ behind
  pub says : SayColumns manner before columns
  pub refused : IsFaulty manner.check line fault

-- .. or of all of the lines, where none is refused
abbrev pub IsReadTo : Manner → List (List ℕ) → Columns → Option LineError → Type 0
IsReadTo manner ls columns None = SayColumns manner ls columns
IsReadTo manner ls columns (Some fault) = IsReadUpTo manner ls columns fault

-- what reading a piece with these lines answers
abbrev pub IsReadPiece : Manner → List (List ℕ) → Result Piece AllocError → Type 0
IsReadPiece manner ls (Ok piece) = IsReadTo manner ls piece.columns piece.refused
IsReadPiece manner ls (Err refused) = Unit {0}

-- .. with this text
abbrev pub IsReadText : Manner → List ℕ → Result Piece AllocError → Type 0
IsReadText manner text piece = IsReadPiece manner (lines text) piece
