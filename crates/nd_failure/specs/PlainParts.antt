-- What the fields of a board that searches keep, beside what its model shows.
-- No public clause cites this: it says what a type keeps.
use Rattle.std.specs.Prelude.{◌≡◌, length}
use Rattle.nd_graph.specs.Walks.{IsOrder}
use Rattle.nd_failure.specs.Kept.{AreDoomed}
use Rattle.nd_failure.specs.declared.plain.PlainBoard.TheInside.{Inside}

pub record IsPlain (b : Inside) : Type 0 where
  pub marked : length b.marks.items ≡ length b.inputs
  pub ordered : IsOrder b.inputs b.order.items
  pub doomed : AreDoomed b.inputs b.marks.items b.doomed
