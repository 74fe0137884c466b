-- A sorted list without repeats is the set of the items.
use Rattle.std.proofs.lemmas.List.Filters.{dedup_is}
use Rattle.nd_machines.proofs.Sets.{sorted_rises, sorted_set, has_one_set}
use Rattle.nd_machines.proofs.feature_set.FeatureSet.new.Goals as goal

pub invariant_of-result : goal.invariant_of-result
invariant_of-result c = sorted_rises _ _ _ c.sort_unstable.ensures.permutation c.sort_unstable.ensures.sorted (dedup_is _ _ _ c.dedup.ensures.filtered)

pub returns : goal.returns
returns c =
    let set = sorted_set _ _ _ c.sort_unstable.ensures.permutation c.sort_unstable.ensures.sorted (dedup_is _ _ _ c.dedup.ensures.filtered) in
    record { set = set; value = (has_one_set _ _).0 set }
