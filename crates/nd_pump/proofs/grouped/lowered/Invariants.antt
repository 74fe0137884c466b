use Rattle.std.proofs.Common.{◌≡◌, ◌<◌, ℕ, false, length, replicate}
use Rattle.nd_pump.specs.Grouped.{list_of, flags_of}
use Rattle.nd_pump.proofs.grouped.lowered.Given as goal

abbrev pub invariant-loop-group : goal.invariant-loop-group
invariant-loop-group l = record {
  len : length l.flags.items ≡ l.group;
  down : (g : ℕ) → g < l.group → flags_of l.flags.items g ≡ replicate (length (list_of l.lists g)) false;
}
