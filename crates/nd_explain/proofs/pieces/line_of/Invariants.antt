use Rattle.std.proofs.Common.{◌≡◌, length}
use Rattle.std.specs.List.{slice_get}
use Rattle.nd_bytes.specs.Lines.{lines_of}
use Rattle.nd_explain.specs.Pieces.{numbered}
use Rattle.nd_explain.proofs.pieces.line_of.Given as goal

abbrev pub invariant-loop-left : goal.invariant-loop-left
invariant-loop-left l = slice_get (lines_of l.left) l.before ≡ numbered (lines_of l.text) l.number

abbrev pub decreases-loop-left : goal.decreases-loop-left
decreases-loop-left l = length l.left
