use Rattle.std.proofs.Common.{MatchBool, subst}
use Rattle.nd_failure.specs.Progress.{Progress, IsReady, IsStopped}
use Rattle.nd_failure.proofs.BoardFacts.{ready_by_set}
use Rattle.nd_failure.proofs.board.Board.is_ready.Goals as goal

pub returns : goal.returns
returns c =
    subst (λ (p : Progress). MatchBool c.contains.result (IsReady p c.args.i) (IsReady p c.args.i → ⊥)) c.self.view_is
    (ready_by_set c.self.inside c.args.i c.contains.result c.self.invariant
    (λ stopped. c.if-is_stopped.ensures (subst (λ (p : Progress). IsStopped p) c.self.view_is stopped)) c.contains.ensures)
