use Rattle.std.proofs.Common.{List, ℕ, ◌+◌, take, sym, subst}
use Rattle.nd_path_numbers.proofs.Growing.{grown_through}
use Rattle.nd_provision.specs.Seeds.{GoesOn}
use Rattle.nd_provision.proofs.Seeding.{goes_more}
use Rattle.nd_provision.proofs.needs.add_numbers.Goals as goal

pub loop-path-preserved : goal.loop-path-preserved
loop-path-preserved c = record {
  grown = grown_through c.args.numbers.now c.loop-path.numbers c.know.new.self c.loop-path.invariant.grown c.in_ok-know.ensures.grown;
  row = subst (λ (row : List ℕ). GoesOn c.args.numbers.now.paths c.know.new.self.paths c.args.row.now.items row (take (c.loop-path.path-index + 1) c.args.paths.now)) (sym c.in_ok-push.ensures.items)
      (goes_more c.args.numbers.now c.loop-path.numbers c.know.new.self c.args.row.now.items c.loop-path.row.items c.args.paths.now c.loop-path.path-index c.path-item.result c.in_ok-know.field-0
      c.loop-path-test.true c.path-item.is c.loop-path.invariant.row c.in_ok-know.ensures.grown c.in_ok-know.ensures.number);
}
