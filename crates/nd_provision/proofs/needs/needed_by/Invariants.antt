use Rattle.std.proofs.Common.{◌≡◌, ◌++◌, take}
use Rattle.std.specs.List.{flat_map}
use Rattle.nd_history.specs.References.{sources_of, inputs_at}
use Rattle.nd_provision.specs.Stored.{named_outputs}
use Rattle.nd_provision.proofs.Joined.{with_graph}
use Rattle.nd_provision.proofs.needs.needed_by.Given as goal

abbrev pub invariant-loop-input : goal.invariant-loop-input
invariant-loop-input l = l.needed.items ≡ sources_of (with_graph l.graph) l.drv ++ flat_map (named_outputs l.graph) (take l.input-index (inputs_at (with_graph l.graph) l.drv))
