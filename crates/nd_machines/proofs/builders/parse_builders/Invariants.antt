-- The machines so far, with those of the lines that are left, are those of the text.
use Rattle.std.proofs.Common.{◌≡◌, ◌≤◌, vec_len}
use Rattle.std.specs.Option.{option_copied}
use Rattle.std.specs.List.{flat_map}
use Rattle.nd_bytes.specs.Cut.{pieces, left_over}
use Rattle.nd_machines.specs.BuildersList.{line_entries, builders}
use Rattle.nd_machines.specs.Adding.{add_all}
use Rattle.nd_machines.proofs.builders.parse_builders.Given as goal

abbrev pub invariant-loop-left : goal.invariant-loop-left
invariant-loop-left l = record {
  same : add_all l.this_system l.machines.items (flat_map line_entries (pieces 10 (option_copied l.left))) ≡ builders l.this_system l.text;
  at_most : vec_len l.machines ≤ 1024;
}

abbrev pub decreases-loop-left : goal.decreases-loop-left
decreases-loop-left l = left_over (option_copied l.left)
