-- What the fields of a board keep, beside what its model shows.
-- No public clause cites this: it says what a type keeps.
use Rattle.std.specs.Prelude.{◌≡◌, ◌<◌, [], length, vec_capacity}
use Rattle.nd_failure.specs.Kept.{AreSettled, AreCounted, AreDoomed, AreReady}
use Rattle.nd_failure.specs.Statuses.{IsTally}
use Rattle.nd_failure.specs.Tallied.{statuses_of}
use Rattle.nd_failure.specs.declared.board.Board.TheInside.{Inside}

pub record IsKept (b : Inside) : Type 0 where
  pub marked : length b.marks.items ≡ length b.edges
  pub settled : AreSettled b.edges b.marks.items
  pub counted : AreCounted b.edges b.marks.items b.unbuilt
  pub doomed : AreDoomed b.edges b.marks.items b.doomed
  pub ready : AreReady b.marks.items b.unbuilt b.ready
  pub tally : IsTally (statuses_of b.marks.items b.doomed) b.counts
  pub idle : b.work.items ≡ []
  pub room : length b.edges < vec_capacity b.work
