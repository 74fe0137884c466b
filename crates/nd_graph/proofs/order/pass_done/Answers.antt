use Rattle.std.proofs.Common.{◌≡◌, ℕ, ◌-◌, ◌<◌, List, length, set, ◌∙◌, arith, rules, get_or-set_same}
use Rattle.std.proofs.lemmas.List.{length-set}
use Rattle.nd_graph.specs.Graphs.{needed}
use Rattle.nd_graph.specs.Orders.{left_of}
use Rattle.nd_graph.proofs.Rows.{rows_length}
use Rattle.nd_graph.proofs.Searching.{advanced, advanced_on, kept_on, lowered}
use Rattle.nd_graph.proofs.order.pass_done.Goals as goal

pub is_done-requires : goal.is_done-requires
is_done-requires c = record {
  within = omega (arith, c.requires.ranged.ranged c.args.top c.in-Some.next c.in-Some.ensures.1, rows_length c.args.inputs.now, c.loop-next.invariant.sized);
}

pub loop-next-preserved : goal.loop-next-preserved
loop-next-preserved c =
    let left : List ℕ = c.loop-next.left in
    let top : ℕ = c.args.top in
    let less : ℕ = left_of left top - 1 in
    let here : top < length left = omega (arith, c.requires.within, c.loop-next.invariant.sized) in
    let low : less < left_of left top = omega (arith, c.in-Some.ensures.0) in
    let gone : left_of left c.in-Some.next ≡ 0 = search rules in
    let same = get_or-set_same left top less 0 here in
    let smaller = lowered left top less here low in
    record {
      search = kept_on (needed c.args.inputs.now) top c.in-Some.next c.args.left.now left c.loop-next.invariant.search c.in-Some.ensures gone;
      advances = advanced_on c.args.left.now left (set left top less) c.loop-next.invariant.advances (advanced left top less here low);
      smaller = omega (arith, smaller, c.loop-next.invariant.smaller);
      sized = length-set left top less ∙ c.loop-next.invariant.sized;
      some = omega (arith, same, c.in-Some.ensures.0);
      few = omega (arith, same, c.loop-next.invariant.few);
    }
