use Rattle.std.proofs.Common.{true, refl}
use Rattle.nd_failure.specs.declared.status.Mark.TheVariants as mark
use Rattle.nd_failure.specs.declared.status.Status.TheVariants.{Waiting, Leased}
use Rattle.nd_failure.proofs.BoardFacts.{known_leased, IsKept-moved, unbuilt_none}
use Rattle.nd_failure.proofs.board.Board.back.Goals as goal

pub invariant_of-self : goal.invariant_of-self
invariant_of-self c =
    let known = known_leased c.self.inside _ c.args.i c.self.invariant c.self.view_is c.requires in
    IsKept-moved c.self.inside c.args.i mark.Free true Leased Waiting _ _ _ c.self.invariant known refl (λ is. cc) refl
    (refl, unbuilt_none c.self.inside.edges c.self.inside.marks.items c.self.inside.unbuilt c.args.i c.self.invariant.counted known.inputs)
    refl c.insert.ensures c.change.ensures
