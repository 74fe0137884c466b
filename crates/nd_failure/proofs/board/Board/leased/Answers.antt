use Rattle.std.proofs.Common.{false, refl}
use Rattle.nd_failure.specs.declared.status.Mark.TheVariants as mark
use Rattle.nd_failure.specs.declared.status.Status.TheVariants.{Waiting, Leased}
use Rattle.nd_failure.proofs.BoardFacts.{known_ready, IsKept-moved}
use Rattle.nd_failure.proofs.board.Board.leased.Goals as goal

pub invariant_of-self : goal.invariant_of-self
invariant_of-self c =
    let known = known_ready c.self.inside _ c.args.i c.self.invariant c.self.view_is c.requires in
    IsKept-moved c.self.inside c.args.i mark.Leased false Waiting Leased _ _ _ c.self.invariant known refl (λ is. cc) refl (λ is. cc) refl
    c.remove.ensures c.change.ensures
