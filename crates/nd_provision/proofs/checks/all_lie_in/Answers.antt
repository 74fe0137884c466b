use Rattle.std.proofs.Common.{List, ℕ, subst}
use Rattle.std.specs.List.{Contains}
use Rattle.nd_closure.specs.Closures.{HoldsAll}
use Rattle.nd_provision.proofs.Gains.{each_more}
use Rattle.nd_provision.proofs.checks.all_lie_in.Goals as goal

pub loop-list-preserved : goal.loop-list-preserved
loop-list-preserved c =
    let here : HoldsAll c.args.set.now c.list-item.result = subst (λ (xs : List (List ℕ)). HoldsAll c.args.set.now xs) c.as_slice.ensures.value c.if-not-lie_in.ensures in
    record {
      each = λ list p h k.
          each_more (λ (xs : List (List ℕ)). (q : List ℕ) → Contains xs q → Contains c.args.set.now q) c.args.lists.now c.loop-list.list-index c.list-item.result
          c.loop-list-test.true c.list-item.is (λ xs there q in_xs. c.loop-list.invariant.each xs q there in_xs) here.each list h p k;
    }
