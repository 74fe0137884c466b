use Rattle.std.proofs.Common.{◌≡◌, length}
use Rattle.nd_pump.specs.Grouped.{AreSeated}
use Rattle.nd_pump.proofs.grouped.seated.Given as goal

abbrev pub invariant-loop-drv : goal.invariant-loop-drv
invariant-loop-drv l = record {
  places : length l.places.items ≡ l.drv;
  lists : length l.lists ≡ l.count;
  seated : AreSeated l.drv l.groups l.places.items l.lists;
}
