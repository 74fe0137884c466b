use Rattle.std.proofs.Common.{take}
use Rattle.nd_provision.specs.Stored.{AreListingsCovered}
use Rattle.nd_provision.proofs.checks.are_listings_held.Given as goal

abbrev pub invariant-loop-listing : goal.invariant-loop-listing
invariant-loop-listing l = AreListingsCovered (take l.listing-index l.listings) l.held.numbers l.own
