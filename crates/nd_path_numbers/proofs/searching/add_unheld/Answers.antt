use Rattle.std.proofs.Common.{◌≡◌, ◌<◌, ℕ, List, length, get_or, inr, sym, ◌∙◌, true≢false}
use Rattle.std.proofs.lemmas.Grind.{get_or_default_zero}
use Rattle.nd_path_numbers.proofs.Searched.{adds_one, covers_more, covers_one}
use Rattle.nd_path_numbers.proofs.searching.add_unheld.Goals as goal

at : (numbers : List ℕ) (i : ℕ) → i < length numbers → get_or numbers i 0 ≡ get_or numbers i (get_or numbers i 0)
at numbers i lt = sym (get_or_default_zero numbers i (get_or numbers i 0) lt)

pub loop-number-preserved-then-contains : goal.loop-number-preserved-then-contains
loop-number-preserved-then-contains c = record {
  only = c.loop-number.invariant.only;
  all = covers_more c.args.numbers.now c.args.held.now.numbers c.loop-number.found c.loop-number.number-index (get_or c.args.numbers.now c.loop-number.number-index 0) c.loop-number-test.true (at c.args.numbers.now c.loop-number.number-index c.loop-number-test.true)
      c.loop-number.invariant.all (inr (c.contains.ensures.0 c.if-contains.true));
}

pub loop-number-preserved : goal.loop-number-preserved
loop-number-preserved c = record {
  only = adds_one c.args.held.now.numbers c.args.found.now c.loop-number.found c.add.new.self c.args.numbers.now (get_or c.args.numbers.now c.loop-number.number-index 0) c.loop-number.invariant.only
      (c.loop-number.number-index, c.loop-number-test.true, sym (at c.args.numbers.now c.loop-number.number-index c.loop-number-test.true)) (λ there. true≢false (sym (c.contains.ensures.1 there) ∙ c.if-contains.false)) c.in_ok-add.ensures;
  all = covers_one c.args.numbers.now c.args.held.now.numbers c.loop-number.found c.add.new.self c.loop-number.number-index (get_or c.args.numbers.now c.loop-number.number-index 0) c.loop-number-test.true (at c.args.numbers.now c.loop-number.number-index c.loop-number-test.true)
      c.loop-number.invariant.all c.in_ok-add.ensures;
}
