use Rattle.std.proofs.Common.{◌≡◌, ◌≤◌, ◌++◌, length}
use Rattle.std.specs.Vec.Iter.{into_iter_items}
use Rattle.nd_provision.specs.Stored.{HasEntered}
use Rattle.nd_provision.specs.Told.{AreTold}
use Rattle.nd_provision.proofs.copying.enter_all.Given as goal

abbrev pub invariant-loop-listing : goal.invariant-loop-listing
invariant-loop-listing l = record {
  entered : HasEntered l.fn.listed.entries l.listed.entries l.fn.numbers l.numbers l.yielded;
  told : AreTold l.listed l.numbers.paths;
  whole : l.fn.listings.items ≡ l.yielded ++ into_iter_items l.listing-iterator;
  room : length (into_iter_items l.listing-iterator) ≤ l.listed.spare;
}
