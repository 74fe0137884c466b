use Rattle.std.proofs.Common.{refl, ◌∙◌}
use Rattle.nd_failure.proofs.BoardFacts.{IsKept-same, shown-same}
use Rattle.nd_failure.proofs.board.Board.try_clone.Goals as goal

pub invariant_of-result : goal.invariant_of-result
invariant_of-result c =
    IsKept-same c.self.inside _ c.self.invariant c.in_ok-edges.ensures (c.in_ok-marks.ensures.marks ∙ c.as_slice.ensures.value)
    c.in_ok-unbuilt.ensures c.in_ok-doomed.ensures.doomed c.in_ok-doomed.ensures.ready refl c.in_ok-marks.ensures.idle
    (c.in_ok-marks.ensures.room ∙ c.capacity.ensures)

pub returns : goal.returns
returns c =
    shown-same c.self.inside.edges _ c.self.inside.keep_going c.self.inside.marks.items
    _ c.self.inside.stop c.in_ok-edges.ensures (c.in_ok-marks.ensures.marks ∙ c.as_slice.ensures.value)
    ∙ c.self.view_is
