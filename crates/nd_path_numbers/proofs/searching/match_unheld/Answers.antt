use Rattle.std.proofs.Common.{List, ℕ, subst}
use Rattle.std.specs.List.Sorted.{IsPermutation}
use Rattle.nd_path_numbers.proofs.Matching.{matched}
use Rattle.nd_path_numbers.proofs.searching.match_unheld.Goals as goal

pub returns-clause-found : goal.returns-clause-found
returns-clause-found c =
    let sorted : List ℕ = c.in-Some.sorted.items in
    let moved : IsPermutation c.in_ok-found.found sorted = subst (λ (ns : List ℕ). IsPermutation ns sorted) c.into_numbers.ensures c.in-Some.ensures.moved in
    matched c.args.numbers.now c.args.held.now.numbers c.args.seeds.now c.in_ok-found.found sorted c.args.paths.now c.in_ok-found.ensures moved c.in-Some.ensures.order
