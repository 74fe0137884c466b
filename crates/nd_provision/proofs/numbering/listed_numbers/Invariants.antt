use Rattle.std.proofs.Common.{◌≡◌, map, take}
use Rattle.nd_provision.specs.Listed.{number_in}
use Rattle.nd_provision.proofs.numbering.listed_numbers.Given as goal

abbrev pub invariant-loop-listing : goal.invariant-loop-listing
invariant-loop-listing l = l.numbers.items ≡ map number_in (take l.listing-index l.listings)
