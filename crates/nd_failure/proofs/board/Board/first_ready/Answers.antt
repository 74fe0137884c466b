use Rattle.std.proofs.Common.{subst}
use Rattle.nd_failure.specs.Progress.{Progress, IsStopped}
use Rattle.nd_failure.specs.Statuses.{IsNextReady}
use Rattle.nd_failure.proofs.BoardFacts.{IsNextReady-kept}
use Rattle.nd_failure.proofs.board.Board.first_ready.Goals as goal

pub returns : goal.returns
returns c =
    subst (λ (p : Progress). IsNextReady p c.args.from c.first_from.result) c.self.view_is
    (IsNextReady-kept c.self.inside c.args.from c.first_from.result c.self.invariant
    (λ stopped. c.if-is_stopped.ensures (subst (λ (p : Progress). IsStopped p) c.self.view_is stopped)) c.first_from.ensures)
