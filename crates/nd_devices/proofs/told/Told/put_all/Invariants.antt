use Rattle.std.proofs.Common.{◌≡◌, ◌≤◌, ◌-◌, length, take}
use Rattle.std.specs.Io.KnownBytes.{Appends}
use Rattle.nd_devices.proofs.told.Told.put_all.Given as goal

-- what was put so far is out, and no write was refused
abbrev pub invariant-loop-at : goal.invariant-loop-at
invariant-loop-at g l = record {
  within : l.at ≤ length l.text;
  written : Appends (g.W.Write.contents l.fn.self.device) (g.W.Write.contents l.self.device) (take l.at l.text);
  mark : l.self.is_marked ≡ l.fn.self.is_marked;
}

abbrev pub decreases-loop-at : goal.decreases-loop-at
decreases-loop-at g l = length l.text - l.at
