use Rattle.std.proofs.Common.{◌⊎◌, List, ℕ, inl, inr, map}
use Rattle.std.specs.List.{Contains}
use Rattle.nd_path_numbers.specs.Numbers.{path_in}
use Rattle.nd_provision.proofs.Gains.{each_more}
use Rattle.nd_provision.proofs.checks.is_covered.Goals as goal

pub loop-path-preserved-then-is_held : goal.loop-path-preserved-then-is_held
loop-path-preserved-then-is_held c = record {
  each = each_more (λ (p : List ℕ). Contains c.args.copied.now p ⊎ Contains (map (path_in c.args.numbers.now.paths) c.args.held.now.numbers) p) c.args.closure.now c.loop-path.path-index c.path-item.result
      c.loop-path-test.true c.path-item.is c.loop-path.invariant.each (inr c.if-is_held.ensures);
}

pub loop-path-preserved : goal.loop-path-preserved
loop-path-preserved c = record {
  each = each_more (λ (p : List ℕ). Contains c.args.copied.now p ⊎ Contains (map (path_in c.args.numbers.now.paths) c.args.held.now.numbers) p) c.args.closure.now c.loop-path.path-index c.path-item.result
      c.loop-path-test.true c.path-item.is c.loop-path.invariant.each (inl (c.contains.ensures.0 c.if-not-contains.false));
}
