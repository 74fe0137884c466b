use Rattle.std.proofs.Common.{◌≡◌, take}
use Rattle.std.specs.List.{flat_map}
use Rattle.nd_provision.proofs.needs.all_sources.Given as goal

abbrev pub invariant-loop-drv : goal.invariant-loop-drv
invariant-loop-drv l = l.sources.items ≡ flat_map (λ x. x) (take l.drv l.graph.sources)
