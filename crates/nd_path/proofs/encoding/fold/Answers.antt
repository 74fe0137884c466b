use Rattle.std.proofs.Common.{arith}
use Rattle.nd_path.proofs.Parts.{fold_from_bytes}
use Rattle.nd_path.proofs.encoding.fold.Goals as goal

pub returns : goal.returns
returns c = fold_from_bytes _ _ c.loop-j.invariant.size (λ k h. c.loop-j.invariant.written k (omega arith))
