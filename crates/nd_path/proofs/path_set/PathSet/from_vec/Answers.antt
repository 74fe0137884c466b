use Rattle.std.proofs.lemmas.List.Filters.{dedup_is}
use Rattle.nd_path.specs.StorePath.{path_eq}
use Rattle.nd_path.proofs.Searches.{rising_from_sorted, members_kept}
use Rattle.nd_path.proofs.path_set.PathSet.from_vec.Goals as goal

pub invariant_of-result : goal.invariant_of-result
invariant_of-result c = rising_from_sorted _ _ c.in_ok-sort.ensures.sorted (dedup_is path_eq _ _ c.dedup.ensures.filtered)

pub returns-clause-members : goal.returns-clause-members
returns-clause-members c = members_kept _ _ _ c.in_ok-sort.ensures.permutation (dedup_is path_eq _ _ c.dedup.ensures.filtered)

pub returns-clause-rising : goal.returns-clause-rising
returns-clause-rising c = rising_from_sorted _ _ c.in_ok-sort.ensures.sorted (dedup_is path_eq _ _ c.dedup.ensures.filtered)
