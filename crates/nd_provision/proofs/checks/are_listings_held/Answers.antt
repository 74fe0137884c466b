use Rattle.std.proofs.Common.{List, ℕ, subst}
use Rattle.nd_path_numbers.specs.Searches.{IsCovered}
use Rattle.nd_provision.specs.declared.copying.Listing.{Listing}
use Rattle.nd_provision.proofs.Gains.{each_more}
use Rattle.nd_provision.proofs.checks.are_listings_held.Goals as goal

pub loop-listing-preserved : goal.loop-listing-preserved
loop-listing-preserved c = record {
  each = each_more (λ (l : Listing). IsCovered l.row c.args.held.now.numbers c.args.own.now) c.args.listings.now c.loop-listing.listing-index c.listing-item.result
      c.loop-listing-test.true c.listing-item.is c.loop-listing.invariant.each
      (subst (λ (ns : List ℕ). IsCovered ns c.args.held.now.numbers c.args.own.now) c.as_slice.ensures (c.are_held.ensures c.if-not-are_held.false));
}
