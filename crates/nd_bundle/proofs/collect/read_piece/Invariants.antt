use Rattle.std.proofs.Common.{map, take}
use Rattle.nd_bundle.specs.Said.{SayColumns}
use Rattle.nd_bundle.proofs.collect.read_piece.Given as goal

abbrev pub invariant-loop-line : goal.invariant-loop-line
invariant-loop-line l = SayColumns l.manner (map (λ line. line.now) (take l.line-index l.line-items)) l.columns
