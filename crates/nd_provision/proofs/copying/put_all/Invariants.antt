use Rattle.std.proofs.Common.{◌≤◌, ◌+◌, length, take}
use Rattle.nd_path_numbers.specs.Held.{hold_of}
use Rattle.nd_provision.specs.Stored.{HasGained}
use Rattle.nd_provision.proofs.copying.put_all.Given as goal

abbrev pub invariant-loop-number : goal.invariant-loop-number
invariant-loop-number l = record {
  gained : HasGained l.fn.holdings l.holdings l.m (take l.number-index l.numbers);
  room : length l.numbers ≤ (hold_of l.holdings l.m).spare + l.number-index;
}
