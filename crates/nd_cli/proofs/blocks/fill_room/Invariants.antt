use Rattle.std.proofs.Common.{◌≡◌, ◌≤◌, ◌-◌, length}
use Rattle.std.specs.Io.KnownBytes.{Consumes}
use Rattle.nd_cli.proofs.blocks.fill_room.Given as goal

-- what the room has is what the device gave, and no read was refused
abbrev pub invariant-filling : goal.invariant-filling
invariant-filling g l = record {
  taken : Consumes (g.R.Read.remaining l.fn.input.device) (g.R.Read.remaining l.input.device) l.room.items;
  bounded : length l.room.items ≤ l.most;
  mark : l.input.is_marked ≡ l.fn.input.is_marked;
}

abbrev pub decreases-filling : goal.decreases-filling
decreases-filling g l = l.most - length l.room.items
