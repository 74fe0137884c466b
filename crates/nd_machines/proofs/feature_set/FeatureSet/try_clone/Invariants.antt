-- The copies so far are the first items.
use Rattle.std.proofs.Common.{◌≡◌, take}
use Rattle.nd_machines.proofs.feature_set.FeatureSet.try_clone.Given as goal

abbrev pub invariant-loop-item : goal.invariant-loop-item
invariant-loop-item l = l.items.items ≡ take l.item-index l.self
