use Rattle.std.proofs.Common.{◌≡◌, ◌∷◌, ◌++◌, [], List, ℕ, map, take, ap, sym, subst, ◌∙◌}
use Rattle.std.specs.List.{zip}
use Rattle.nd_path_numbers.proofs.Growing.{grown_through}
use Rattle.nd_provision.specs.declared.copying.Listing.{Listing}
use Rattle.nd_provision.specs.Stored.{entry_of, AreListings}
use Rattle.nd_provision.proofs.Gains.{beside_more, beside_all}
use Rattle.nd_provision.proofs.Entering.{listings_push, entries_push}
use Rattle.nd_provision.proofs.numbering.list_beside.Goals as goal

pub returns-in_err-push-clause-grown : goal.returns-in_err-push-clause-grown
returns-in_err-push-clause-grown c = grown_through c.args.numbers.now c.loop-i.numbers c.list_one.new.numbers c.loop-i.invariant.grown c.in_ok-listing.ensures.grown

pub loop-i-preserved : goal.loop-i-preserved
loop-i-preserved c =
    let before : List (List ℕ × List (List ℕ)) = take c.loop-i.i (zip c.args.paths.now c.args.refs.now) in
    let listing : entry_of c.in_ok-listing.listing ≡ (c.index-paths-i.result, c.index-refs-i.result) =
    c.in_ok-listing.ensures.entry ∙ ap (λ (x : List (List ℕ)). (c.index-paths-i.result, x)) c.as_slice.ensures.value in
    record {
      grown = grown_through c.args.numbers.now c.loop-i.numbers c.list_one.new.numbers c.loop-i.invariant.grown c.in_ok-listing.ensures.grown;
      listed = subst (λ (ls : List Listing). AreListings c.list_one.new.numbers.paths ls) (sym c.in_ok-push.ensures.items)
          (listings_push c.loop-i.numbers c.list_one.new.numbers c.loop-i.listings.items c.in_ok-listing.listing c.in_ok-listing.ensures.grown c.loop-i.invariant.listed c.in_ok-listing.ensures.listed);
      entries =
          ap (map entry_of) c.in_ok-push.ensures.items
          ∙ entries_push c.loop-i.listings.items c.in_ok-listing.listing c.index-paths-i.result c.index-refs-i.result listing
          ∙ ap (λ (es : List (List ℕ × List (List ℕ))). es ++ (c.index-paths-i.result, c.index-refs-i.result) ∷ []) c.loop-i.invariant.entries
          ∙ beside_more c.args.paths.now c.args.refs.now c.loop-i.i c.index-paths-i.result c.index-refs-i.result c.requires c.loop-i-test.true c.index-paths-i.is c.index-refs-i.is;
    }

pub returns-clause-entries : goal.returns-clause-entries
returns-clause-entries c = c.loop-i.invariant.entries ∙ beside_all c.args.paths.now c.args.refs.now c.loop-i.i c.loop-i-test.false
