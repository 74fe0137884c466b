use Rattle.std.proofs.Common.{◌≡◌, ◌∙◌, List, length, take, subst, ap, arith}
use Rattle.std.specs.List.{AllZip}
use Rattle.std.proofs.lemmas.List.{take_more}
use Rattle.std.proofs.Math.Seq.{take-length}
use Rattle.nd_eligible.specs.declared.need.Need.{Need}
use Rattle.nd_eligible.specs.Classing.{IsClass}
use Rattle.nd_eligible.proofs.Classed.{numbered_more, all_within, all_eligible}
use Rattle.nd_eligible.proofs.classes.Classes.new.Goals as goal

-- one more need has its number
pub loop-need-preserved : goal.loop-need-preserved
loop-need-preserved c = record {
  known = c.in_ok-number.ensures.known;
  numbered = rw (c.in_ok-push.ensures.items, take_more c.args.needs.now c.loop-need.need-index c.need-item.result c.loop-need-test.true, ← c.need-item.is)
      (numbered_more c.args.machines.now c.loop-need.lists.items c.number_of.new.lists.items c.in_ok-number.ensures.kept.0
      (take c.loop-need.need-index c.args.needs.now) c.loop-need.numbers.items c.need-item.result c.in_ok-number.number
      c.in_ok-number.ensures.kept.1 c.loop-need.invariant.numbered c.in_ok-number.ensures.number);
}

pub invariant_of-result : goal.invariant_of-result
invariant_of-result c = all_within c.args.machines.now c.loop-need.lists.items (take c.loop-need.need-index c.args.needs.now) c.loop-need.numbers.items c.loop-need.invariant.numbered

-- all needs have theirs
pub returns : goal.returns
returns c =
    let whole : c.loop-need.need-index ≡ length c.args.needs.now = omega arith in
    all_eligible c.args.machines.now c.loop-need.lists.items c.args.needs.now c.loop-need.numbers.items
    (subst (λ (needs : List Need). AllZip (IsClass c.args.machines.now c.loop-need.lists.items) needs c.loop-need.numbers.items)
    (ap (λ n. take n c.args.needs.now) whole ∙ take-length c.args.needs.now) c.loop-need.invariant.numbered)
