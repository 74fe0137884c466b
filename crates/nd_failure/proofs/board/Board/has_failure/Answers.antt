use Rattle.std.proofs.Common.{refl, subst, MatchBool, ltb}
use Rattle.nd_failure.specs.Progress.{Progress, HasFailure}
use Rattle.nd_failure.proofs.BoardFacts.{failure_told}
use Rattle.nd_failure.proofs.board.Board.has_failure.Goals as goal

pub returns : goal.returns
returns c =
    subst (λ (p : Progress). MatchBool (ltb 0 c.self.inside.counts.failed) (HasFailure p.marks) (HasFailure p.marks → ⊥)) c.self.view_is
    (failure_told c.self.inside (ltb 0 c.self.inside.counts.failed) c.self.invariant refl)
