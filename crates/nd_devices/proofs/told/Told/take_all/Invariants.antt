use Rattle.std.proofs.Common.{◌≡◌, ◌≤◌, ◌+◌, ◌-◌, vec_len}
use Rattle.std.specs.Io.KnownBytes.{Consumes}
use Rattle.nd_devices.proofs.told.Told.take_all.Given as goal

-- the bytes so far are what the device gave, and no read was refused
abbrev pub invariant-loop-room : goal.invariant-loop-room
invariant-loop-room g l = record {
  bounded : vec_len l.bytes ≤ l.limit + 1;
  taken : Consumes (g.R.Read.remaining l.fn.self.device) (g.R.Read.remaining l.self.device) l.bytes.items;
  mark : l.self.is_marked ≡ l.fn.self.is_marked;
}

abbrev pub decreases-loop-room : goal.decreases-loop-room
decreases-loop-room g l = l.limit + 1 - vec_len l.bytes
