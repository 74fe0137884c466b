use Rattle.std.proofs.Common.{ap}
use Rattle.nd_failure.specs.declared.status.Counts.{Counts}
use Rattle.nd_failure.proofs.BoardFacts.{IsKept-fresh}
use Rattle.nd_failure.proofs.board.Board.over.Goals as goal

pub invariant_of-result : goal.invariant_of-result
invariant_of-result c =
    IsKept-fresh _ c.len-len.result c.len-len.ensures c.in_ok-marks.ensures.marks c.in_ok-unbuilt.ensures c.in_ok-doomed.ensures.ready
    c.in_ok-doomed.ensures.doomed
    (ap (λ (x : Counts). x.waiting) c.all_waiting.ensures) (ap (λ (x : Counts). x.leased) c.all_waiting.ensures)
    (ap (λ (x : Counts). x.built) c.all_waiting.ensures) (ap (λ (x : Counts). x.failed) c.all_waiting.ensures)
    (ap (λ (x : Counts). x.cancelled) c.all_waiting.ensures)
    c.in_ok-marks.ensures.idle c.in_ok-marks.ensures.room
