use Rattle.std.proofs.Common.{◌≡◌, ◌<◌, List, ℕ, length, get_or, sym, subst}
use Rattle.std.proofs.lemmas.Grind.{get_or_default_zero}
use Rattle.nd_path_numbers.specs.Numbers.{row_in}
use Rattle.nd_path_numbers.specs.Searches.{IsCovered}
use Rattle.nd_provision.proofs.Gains.{each_more}
use Rattle.nd_provision.proofs.checks.are_rows_held.Goals as goal

at : (numbers : List ℕ) (i : ℕ) → i < length numbers → get_or numbers i 0 ≡ get_or numbers i (get_or numbers i 0)
at numbers i lt = sym (get_or_default_zero numbers i (get_or numbers i 0) lt)

pub loop-number-preserved : goal.loop-number-preserved
loop-number-preserved c = record {
  each = each_more (λ (n : ℕ). IsCovered (row_in c.args.numbers.now.rows n) c.args.held.now.numbers c.args.own.now) c.args.own.now c.loop-number.number-index (get_or c.args.own.now c.loop-number.number-index 0)
      c.loop-number-test.true (at c.args.own.now c.loop-number.number-index c.loop-number-test.true) c.loop-number.invariant.each
      (subst (λ (ns : List ℕ). IsCovered ns c.args.held.now.numbers c.args.own.now) c.row.ensures (c.are_held.ensures c.if-not-are_held.false));
}
