use Rattle.std.proofs.Common.{◌≡◌, ◌<◌, ◌≤◌, ◌+◌, ◌-◌, length}
use Rattle.nd_cli.specs.Blocks.{IsFedAsFar}
use Rattle.nd_cli.specs.Inputs.{limit}
use Rattle.nd_cli.proofs.blocks.feed_input.Given as goal

-- the reader was fed what the device gave so far, but for the block in the room, and no read was refused
abbrev pub invariant-feeding : goal.invariant-feeding
invariant-feeding g l = record {
  check : (g.P.PartsReader.reading l.reader).check ≡ (g.P.PartsReader.reading l.fn.reader).check;
  far : IsFedAsFar (g.R.Read.remaining l.fn.input.device) (g.R.Read.remaining l.input.device) (g.P.PartsReader.reading l.reader).text l.room.items l.count l.size;
  mark : l.input.is_marked ≡ l.fn.input.is_marked;
  some : 0 < l.size;
  within : length l.room.items ≤ l.count;
}

abbrev pub decreases-feeding : goal.decreases-feeding
decreases-feeding g l = limit + 1 - (l.count - length l.room.items)
