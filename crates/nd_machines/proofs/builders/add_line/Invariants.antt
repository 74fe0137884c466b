-- The machines so far, with those of the entries that are left, are those of the line.
use Rattle.std.proofs.Common.{◌≡◌, ◌≤◌, vec_len, map}
use Rattle.std.specs.Option.{option_copied}
use Rattle.nd_bytes.specs.Cut.{pieces, left_over}
use Rattle.nd_machines.specs.Fields.{fields}
use Rattle.nd_machines.specs.BuildersList.{line_entries}
use Rattle.nd_machines.specs.Adding.{add_all}
use Rattle.nd_machines.proofs.builders.add_line.Given as goal

abbrev pub invariant-loop-left : goal.invariant-loop-left
invariant-loop-left l = record {
  same : add_all l.this_system l.machines.items (map fields (pieces 59 (option_copied l.left))) ≡ add_all l.this_system l.initial.machines.items (line_entries l.line);
  at_most : vec_len l.machines ≤ 1024;
}

abbrev pub decreases-loop-left : goal.decreases-loop-left
decreases-loop-left l = left_over (option_copied l.left)
