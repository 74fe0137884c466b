use Rattle.std.proofs.Common.{◌++◌, ◌∷◌, [], length, ap, arith}
use Rattle.std.proofs.lemmas.List.{length-append}
use Rattle.nd_failure.specs.Progress.{Progress}
use Rattle.nd_failure.proofs.TallyFacts.{total_of-tally, IsTally-push}
use Rattle.nd_failure.proofs.PlainFacts.{statuses_push}
use Rattle.nd_failure.proofs.plain.PlainBoard.counts.Goals as goal

pub add-requires : goal.add-requires
add-requires c =
    omega (arith, total_of-tally c.loop-i.invariant.0 c.loop-i.counts c.loop-i.invariant.3, c.loop-i.invariant.1)

pub loop-i-preserved : goal.loop-i-preserved
loop-i-preserved c =
    let before = c.loop-i.invariant in (
      before.0 ++ c.status.result ∷ [],
      omega (arith, length-append before.0 (c.status.result ∷ []), before.1),
      statuses_push c.args.self.now before.0 c.loop-i.i c.status.result before.1 before.2 c.status.ensures,
      IsTally-push before.0 c.status.result c.loop-i.counts c.add.new.self before.3 c.add.ensures,
    )

pub returns-clause-sum : goal.returns-clause-sum
returns-clause-sum c =
    omega (
      arith,
      total_of-tally c.loop-i.invariant.0 c.loop-i.counts c.loop-i.invariant.3,
      c.loop-i.invariant.1,
      c.len-i-end.ensures,
      c.self.inside.marks.ok.0,
      c.self.invariant.marked,
      ap (λ (p : Progress). length p.inputs) c.self.view_is,
    )
