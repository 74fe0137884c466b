use Rattle.std.proofs.Common.{◌≡◌, ◌++◌, ◌+◌, drop}
use Rattle.nd_cli.specs.SlotLines.{builder_lines, park_lines}
use Rattle.nd_cli.proofs.slot_lines.all_lines.Given as goal

abbrev pub invariant-loop-place : goal.invariant-loop-place
invariant-loop-place l = l.text.items ++ builder_lines (l.place + 1) (drop l.place l.machines) ≡ park_lines l.local l.machines
