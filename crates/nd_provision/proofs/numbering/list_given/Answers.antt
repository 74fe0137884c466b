use Rattle.std.proofs.Common.{◌≡◌, ◌∷◌, ◌++◌, ◌+◌, [], List, ℕ, map, take, ap, sym, subst, ◌∙◌}
use Rattle.nd_path.specs.PathSets.{HasSameMembers}
use Rattle.nd_closure.specs.Tables.{refs_of}
use Rattle.nd_path_numbers.proofs.Growing.{grown_through}
use Rattle.nd_provision.specs.declared.copying.Listing.{Listing}
use Rattle.nd_provision.specs.Stored.{entry_of, AreListings, AreGivenEntries}
use Rattle.nd_provision.proofs.Gains.{given_more}
use Rattle.nd_provision.proofs.Entering.{listings_push, entries_push}
use Rattle.nd_provision.proofs.numbering.list_given.Goals as goal

pub returns-in_err-push-clause-grown : goal.returns-in_err-push-clause-grown
returns-in_err-push-clause-grown c = grown_through c.args.numbers.now c.loop-path.numbers c.list_one.new.numbers c.loop-path.invariant.grown c.in_ok-listing.ensures.grown

pub loop-path-preserved : goal.loop-path-preserved
loop-path-preserved c =
    let info : List (List ℕ × List (List ℕ)) = c.args.info.now.entries in
    let path : List ℕ = c.path-item.result in
    let refs : List (List ℕ) = c.refs.result.now in
    let made : map entry_of c.push.new.self.items ≡ map entry_of c.loop-path.listings.items ++ (path, refs) ∷ [] =
    ap (map entry_of) c.in_ok-push.ensures.items ∙ entries_push c.loop-path.listings.items c.in_ok-listing.listing path refs c.in_ok-listing.ensures.entry in
    let same : HasSameMembers (refs_of info path) refs = subst (λ (xs : List (List ℕ)). HasSameMembers xs refs) c.refs.ensures (record { to = λ p h. h; from = λ p h. h }) in
    record {
      grown = grown_through c.args.numbers.now c.loop-path.numbers c.list_one.new.numbers c.loop-path.invariant.grown c.in_ok-listing.ensures.grown;
      listed = subst (λ (ls : List Listing). AreListings c.list_one.new.numbers.paths ls) (sym c.in_ok-push.ensures.items)
          (listings_push c.loop-path.numbers c.list_one.new.numbers c.loop-path.listings.items c.in_ok-listing.listing c.in_ok-listing.ensures.grown c.loop-path.invariant.listed c.in_ok-listing.ensures.listed);
      entries = subst (λ (es : List (List ℕ × List (List ℕ))). AreGivenEntries info (take (c.loop-path.path-index + 1) c.args.given.now) es) (sym made)
          (given_more info c.args.given.now (map entry_of c.loop-path.listings.items) c.loop-path.path-index path refs c.loop-path-test.true c.path-item.is c.loop-path.invariant.entries same);
    }
