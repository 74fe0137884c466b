use Rattle.std.proofs.Common.{List, ℕ, [], subst, sym, take, ◌+◌}
use Rattle.nd_path_numbers.specs.Numbers.{AreNumbersOf}
use Rattle.nd_path_numbers.proofs.Growing.{grown_none, grown_through, no_numbers, numbers_more, only_none, only_next}
use Rattle.nd_path_numbers.proofs.path_numbers.PathNumbers.know_all.Goals as goal

pub loop-path-init : goal.loop-path-init
loop-path-init c = record {
  grown = grown_none c.args.self.now;
  only = only_none c.args.self.now.paths c.args.paths.now;
  numbers = subst (λ (ns : List ℕ). AreNumbersOf c.args.self.now.paths [] ns) (sym c.in_ok-numbers.ensures.items) (no_numbers c.args.self.now.paths);
}

pub returns-in_err-push-clause-grown : goal.returns-in_err-push-clause-grown
returns-in_err-push-clause-grown c = grown_through c.args.self.now c.loop-path.self c.know.new.self c.loop-path.invariant.grown c.in_ok-know.ensures.grown

pub returns-in_err-know-clause-only : goal.returns-in_err-know-clause-only
returns-in_err-know-clause-only c = only_next c.args.self.now.paths c.loop-path.self.paths c.know.new.self.paths c.args.paths.now c.loop-path.path-index c.path-item.result c.loop-path-test.true c.path-item.is c.loop-path.invariant.only c.in_err-know.ensures.only

pub returns-in_err-push-clause-only : goal.returns-in_err-push-clause-only
returns-in_err-push-clause-only c = only_next c.args.self.now.paths c.loop-path.self.paths c.know.new.self.paths c.args.paths.now c.loop-path.path-index c.path-item.result c.loop-path-test.true c.path-item.is c.loop-path.invariant.only c.in_ok-know.ensures.only

pub loop-path-preserved : goal.loop-path-preserved
loop-path-preserved c = record {
  grown = grown_through c.args.self.now c.loop-path.self c.know.new.self c.loop-path.invariant.grown c.in_ok-know.ensures.grown;
  only = only_next c.args.self.now.paths c.loop-path.self.paths c.know.new.self.paths c.args.paths.now c.loop-path.path-index c.path-item.result c.loop-path-test.true c.path-item.is c.loop-path.invariant.only c.in_ok-know.ensures.only;
  numbers = subst (λ (ns : List ℕ). AreNumbersOf c.know.new.self.paths (take (c.loop-path.path-index + 1) c.args.paths.now) ns) (sym c.in_ok-push.ensures.items)
      (numbers_more c.loop-path.self c.know.new.self c.args.paths.now c.loop-path.numbers.items c.loop-path.path-index c.path-item.result c.in_ok-know.field-0
      c.loop-path-test.true c.path-item.is c.loop-path.invariant.numbers c.in_ok-know.ensures.grown c.in_ok-know.ensures.number);
}
