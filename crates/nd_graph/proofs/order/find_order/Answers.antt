use Rattle.std.proofs.Common.{◌≡◌, ◌+◌, ℕ, List, [], length, map, take, sym, ap, ◌∙◌, subst}
use Rattle.std.proofs.lemmas.List.{take_all}
use Rattle.nd_graph.specs.Graphs.{needed}
use Rattle.nd_graph.specs.Orders.{IsSearch}
use Rattle.nd_graph.specs.declared.graph.Input.{Input}
use Rattle.nd_graph.proofs.Searching.{first_counts}
use Rattle.nd_graph.proofs.order.find_order.Goals as goal

pub visit_all-requires-clause-search : goal.visit_all-requires-clause-search
visit_all-requires-clause-search c =
    let inputs : List (List Input) = c.args.inputs.now in
    let whole : take c.loop-row.row-index inputs ≡ inputs = take_all c.loop-row.row-index inputs c.loop-row-test.false in
    let left : c.as_mut_slice.result.now ≡ map (λ row. length row + 2) inputs =
    c.as_mut_slice.ensures.value ∙ c.loop-row.invariant ∙ ap (λ (rows : List (List Input)). map (λ row. length row + 2) rows) whole in
    subst (λ (order : List ℕ). IsSearch (needed inputs) c.as_mut_slice.result.now [] order) (sym c.in_ok-order.ensures.items)
    (first_counts inputs c.as_mut_slice.result.now left)
