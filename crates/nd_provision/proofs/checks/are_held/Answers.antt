use Rattle.std.proofs.Common.{◌≡◌, ◌<◌, ℕ, List, length, get_or, inl, inr, sym}
use Rattle.std.proofs.lemmas.Grind.{get_or_default_zero}
use Rattle.nd_path_numbers.proofs.Searched.{covers_more}
use Rattle.nd_provision.proofs.checks.are_held.Goals as goal

at : (numbers : List ℕ) (i : ℕ) → i < length numbers → get_or numbers i 0 ≡ get_or numbers i (get_or numbers i 0)
at numbers i lt = sym (get_or_default_zero numbers i (get_or numbers i 0) lt)

pub loop-number-preserved-then-contains : goal.loop-number-preserved-then-contains
loop-number-preserved-then-contains c =
    covers_more c.args.row.now c.args.held.now.numbers c.args.own.now c.loop-number.number-index (get_or c.args.row.now c.loop-number.number-index 0) c.loop-number-test.true
    (at c.args.row.now c.loop-number.number-index c.loop-number-test.true) c.loop-number.invariant (inr (c.contains.ensures.0 c.if-contains.true))

pub loop-number-preserved : goal.loop-number-preserved
loop-number-preserved c =
    covers_more c.args.row.now c.args.held.now.numbers c.args.own.now c.loop-number.number-index (get_or c.args.row.now c.loop-number.number-index 0) c.loop-number-test.true
    (at c.args.row.now c.loop-number.number-index c.loop-number-test.true) c.loop-number.invariant (inl (c.is_among.ensures c.if-not-is_among.false))
