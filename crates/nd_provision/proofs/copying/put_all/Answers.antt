use Rattle.std.proofs.Common.{◌≡◌, ◌<◌, ℕ, List, length, get_or, sym, arith}
use Rattle.std.proofs.lemmas.Grind.{get_or_default_zero}
use Rattle.nd_provision.proofs.Gains.{gained_next}
use Rattle.nd_provision.proofs.copying.put_all.Goals as goal

at : (numbers : List ℕ) (i : ℕ) → i < length numbers → get_or numbers i 0 ≡ get_or numbers i (get_or numbers i 0)
at numbers i lt = sym (get_or_default_zero numbers i (get_or numbers i 0) lt)

pub loop-number-preserved : goal.loop-number-preserved
loop-number-preserved c = record {
  gained = gained_next c.args.holdings.now c.loop-number.holdings c.add.new.self c.args.m c.args.numbers.now c.loop-number.number-index (get_or c.args.numbers.now c.loop-number.number-index 0) c.in-Ok.field-0
      c.loop-number-test.true (at c.args.numbers.now c.loop-number.number-index c.loop-number-test.true) c.loop-number.invariant.gained c.in-Ok.ensures.added c.in-Ok.ensures.numbers c.in-Ok.ensures.others;
  room = omega (arith, c.loop-number.invariant.room, c.in-Ok.ensures.room);
}
