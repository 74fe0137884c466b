-- What the fields of the derivations by group keep, beside what the model shows.
-- No public clause cites this: it says what a type keeps.
use Rattle.std.specs.Prelude.{◌≡◌, length}
use Rattle.nd_pump.specs.Grouped.{AreSeated, AreFlagged, Readied}
use Rattle.nd_pump.specs.declared.grouped.Grouped.TheInside.{Inside}

abbrev pub readied : Inside → Readied
readied b = record { groups = b.groups.items; ready = b.ready.items; count = length b.lists }

pub record IsKept (b : Inside) : Type 0 where
  pub sized : length b.ready.items ≡ length b.groups.items
  pub places : length b.places.items ≡ length b.groups.items
  pub seated : AreSeated (length b.groups.items) b.groups.items b.places.items b.lists
  pub flagged : AreFlagged b.lists b.flags.items b.ready.items
