use Rattle.std.proofs.Common.{◌<◌, ℕ, length, get_or, sym, arith}
use Rattle.std.proofs.lemmas.Grind.{get_or_default_zero}
use Rattle.nd_path_numbers.proofs.Matching.{matched_more}
use Rattle.nd_path_numbers.proofs.path_numbers.PathNumbers.are_numbers_of.Goals as goal

pub loop-i-preserved : goal.loop-i-preserved
loop-i-preserved c =
    let here : ℕ = get_or c.args.numbers.now c.loop-i.i 0 in
    let within : c.loop-i.i < length c.args.numbers.now = omega (arith, c.loop-i-test.true, c.if-numbers-paths.false) in
    matched_more c.args.self.now.paths c.args.paths.now c.args.numbers.now c.loop-i.i c.index-paths-i.result here c.loop-i-test.true within
    c.index-paths-i.is (sym (get_or_default_zero c.args.numbers.now c.loop-i.i here within)) c.loop-i.invariant (c.is_number_of.ensures.0 c.if-not-is_number_of.false)
