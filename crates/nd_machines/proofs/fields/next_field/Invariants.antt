-- What is left has the same fields, since only empty parts stand before it.
use Rattle.std.proofs.Common.{◌≡◌}
use Rattle.std.specs.Option.{option_copied}
use Rattle.nd_bytes.specs.Cut.{left_over}
use Rattle.nd_machines.specs.FeatureSets.{filled}
use Rattle.nd_machines.specs.Fields.{blank_pieces, fields}
use Rattle.nd_machines.proofs.fields.next_field.Given as goal

abbrev pub invariant-loop-left : goal.invariant-loop-left
invariant-loop-left l = filled (blank_pieces (option_copied l.left)) ≡ fields l.bytes

abbrev pub decreases-loop-left : goal.decreases-loop-left
decreases-loop-left l = left_over (option_copied l.left)
