use Rattle.std.proofs.Common.{◌≡◌, ℕ, [], length}
use Rattle.nd_path_numbers.specs.Held.{hold_of}
use Rattle.nd_path_numbers.proofs.holdings.Holdings.new.Given as goal

abbrev pub invariant-loop-machine : goal.invariant-loop-machine
invariant-loop-machine l = record {
  size : length l.sets.items ≡ l._machine;
  empty : (m : ℕ) → (hold_of l.sets.items m).numbers ≡ [];
}
