use Rattle.std.proofs.Common.{arith, rules}
use Rattle.std.proofs.KnownBytes.{Appends-trans}
use Rattle.std.proofs.Math.Seq.{take-add}
use Rattle.nd_devices.proofs.told.Told.put_all.Goals as goal

-- one more write goes on where the last one ended
pub loop-at-preserved : goal.loop-at-preserved
loop-at-preserved g c = record {
  within = omega (arith, c.in_ok-at.ensures.bound, c.split_at.ensures.back_len);
  written = rw (take-add c.loop-at.at c.in_ok-at.field-0 c.args.text.now, ← c.split_at.ensures.back)
      (Appends-trans _ _ _ _ _ c.loop-at.invariant.written c.in_ok-at.ensures.written);
  mark = search rules;
}
