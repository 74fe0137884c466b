use Rattle.std.proofs.Common.{◌≡◌, ◌+◌, List, ℕ, [], ◌∷◌, ◌++◌, length, sym, ap, subst, ◌∙◌, arith}
use Rattle.std.specs.List.{Contains}
use Rattle.std.proofs.lemmas.List.{append_assoc}
use Rattle.std.proofs.lemmas.List.Elements.{Contains-append_right}
use Rattle.std.specs.Vec.Iter.{into_iter_items}
use Rattle.nd_history.proofs.Reported.{contains_here}
use Rattle.nd_provision.specs.declared.copying.Listing.{Listing}
use Rattle.nd_provision.specs.Stored.{IsListing}
use Rattle.nd_provision.proofs.Entering.{entered_through}
use Rattle.nd_provision.proofs.copying.enter_all.Goals as goal

pub enter_one-requires-clause-listed : goal.enter_one-requires-clause-listed
enter_one-requires-clause-listed c =
    let rest : List Listing = into_iter_items c.next.new.self in
    let there : Contains c.args.listings.items c.in-Some.listing =
    subst (λ (ls : List Listing). Contains ls c.in-Some.listing) (sym (c.loop-listing.invariant.whole ∙ ap (λ (ls : List Listing). c.loop-listing.yielded ++ ls) c.in-Some.ensures.steps.0))
    (Contains-append_right c.loop-listing.yielded (c.in-Some.listing ∷ rest) c.in-Some.listing (contains_here c.in-Some.listing rest)) in
    subst (λ (ps : List (List ℕ)). IsListing ps c.in-Some.listing) (sym c.loop-listing.invariant.entered.paths) (c.requires.listed.each c.in-Some.listing there)

pub loop-listing-preserved : goal.loop-listing-preserved
loop-listing-preserved c =
    let left : length (into_iter_items c.loop-listing.listing-iterator) ≡ length (into_iter_items c.next.new.self) + 1 =
    ap (λ (xs : List Listing). length xs) c.in-Some.ensures.steps.0 ∙ omega arith in
    record {
      entered = entered_through c.args.listed.now.entries c.loop-listing.listed.entries c.enter_one.new.listed.entries c.args.numbers.now c.loop-listing.numbers c.enter_one.new.numbers c.loop-listing.yielded c.in-Some.listing
          c.loop-listing.invariant.entered c.enter_one.ensures.entered;
      told = c.enter_one.ensures.told;
      whole =
          c.loop-listing.invariant.whole ∙ ap (λ (rest : List Listing). c.loop-listing.yielded ++ rest) c.in-Some.ensures.steps.0
          ∙ sym (append_assoc c.loop-listing.yielded (c.in-Some.listing ∷ []) (into_iter_items c.next.new.self));
      room = omega (arith, c.loop-listing.invariant.room, c.enter_one.ensures.room, left);
    }
