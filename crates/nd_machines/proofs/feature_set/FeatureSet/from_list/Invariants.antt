-- The items so far, with those of what is left, are the items of the list.
use Rattle.std.proofs.Common.{◌≡◌, ◌==◌, ◌++◌}
use Rattle.std.specs.List.{slice_split}
use Rattle.std.specs.Option.{option_copied}
use Rattle.nd_bytes.specs.Cut.{pieces, left_over}
use Rattle.nd_machines.specs.FeatureSets.{filled}
use Rattle.nd_machines.proofs.feature_set.FeatureSet.from_list.Given as goal

abbrev pub invariant-loop-left : goal.invariant-loop-left
invariant-loop-left l = l.items.items ++ filled (pieces 44 (option_copied l.left)) ≡ filled (slice_split (λ b. b == 44) l.list)

abbrev pub decreases-loop-left : goal.decreases-loop-left
decreases-loop-left l = left_over (option_copied l.left)
