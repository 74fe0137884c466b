use Rattle.std.proofs.Common.{◌≡◌, ◌++◌, length, map}
use Rattle.nd_bundle.specs.Lines.{lines, lines_in}
use Rattle.nd_bundle.proofs.cutting.cut_pieces.Given as goal

abbrev pub invariant-loop-left : goal.invariant-loop-left
invariant-loop-left l = lines_in (map (λ piece. piece.now) l.found.items) ++ lines l.left ≡ lines l.text

abbrev pub decreases-loop-left : goal.decreases-loop-left
decreases-loop-left l = length l.left
