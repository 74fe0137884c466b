use Rattle.std.proofs.Common.{◌≡◌, ◌<◌, ◌≤◌, List, ℕ, [], ◌++◌, length, map, get_or, sym, ap, ◌∙◌, subst}
use Rattle.std.specs.List.{flat_map}
use Rattle.std.proofs.lemmas.List.{take_all}
use Rattle.nd_graph.specs.declared.graph.Input.{Input}
use Rattle.nd_history.specs.References.{sources_of, inputs_at}
use Rattle.nd_provision.specs.Stored.{AreNeededIn, named_outputs}
use Rattle.nd_provision.proofs.Joined.{with_graph, input_there, needed_more, node_there, places_there}
use Rattle.nd_provision.proofs.Seeding.{needed_in}
use Rattle.nd_provision.proofs.needs.needed_by.Goals as goal

pub outputs-outputs-requires : goal.outputs-outputs-requires
outputs-outputs-requires c =
    let i = with_graph c.args.graph.now in
    let there = input_there i c.args.drv c.inputs-input-items.result.now c.loop-input.input-index c.input-item.result c.inputs-input-items.ensures.inputs c.loop-input-test.true c.input-item.is in
    node_there i c.args.drv c.input-item.result c.learn_graph.ensures there

pub add_named-requires : goal.add_named-requires
add_named-requires c =
    let i = with_graph c.args.graph.now in
    let there = input_there i c.args.drv c.inputs-input-items.result.now c.loop-input.input-index c.input-item.result c.inputs-input-items.ensures.inputs c.loop-input-test.true c.input-item.is in
    places_there i c.args.drv c.input-item.result c.as_slice.result.now c.outputs-outputs.result.now c.learn_graph.ensures there c.as_slice.ensures c.outputs-outputs.ensures

pub loop-input-preserved : goal.loop-input-preserved
loop-input-preserved c =
    let i = with_graph c.args.graph.now in
    let at : c.loop-input.input-index < length (inputs_at i c.args.drv) = subst (λ (xs : List Input). c.loop-input.input-index < length xs) c.inputs-input-items.ensures.inputs c.loop-input-test.true in
    let is : c.input-item.result ≡ get_or (inputs_at i c.args.drv) c.loop-input.input-index c.input-item.result =
    subst (λ (xs : List Input). c.input-item.result ≡ get_or xs c.loop-input.input-index c.input-item.result) c.inputs-input-items.ensures.inputs c.input-item.is in
    c.in_ok-add_named.ensures
    ∙ ap (λ (xs : List (List ℕ)). xs ++ map (λ k. get_or c.outputs-outputs.result.now k []) c.as_slice.result.now) c.loop-input.invariant
    ∙ needed_more i c.args.drv c.loop-input.input-index c.input-item.result c.as_slice.result.now c.outputs-outputs.result.now at is c.as_slice.ensures c.outputs-outputs.ensures

pub returns : goal.returns
returns c =
    let i = with_graph c.args.graph.now in
    let past_all : length (inputs_at i c.args.drv) ≤ c.loop-input.input-index = subst (λ (xs : List Input). length xs ≤ c.loop-input.input-index) c.inputs-input-items.ensures.inputs c.loop-input-test.false in
    let all : c.loop-input.needed.items ≡ sources_of i c.args.drv ++ flat_map (named_outputs c.args.graph.now) (inputs_at i c.args.drv) =
    c.loop-input.invariant ∙ ap (λ (xs : List Input). sources_of i c.args.drv ++ flat_map (named_outputs c.args.graph.now) xs) (take_all c.loop-input.input-index (inputs_at i c.args.drv) past_all) in
    subst (λ (xs : List (List ℕ)). AreNeededIn c.args.graph.now c.args.drv xs) (sym all) (needed_in c.args.graph.now c.args.drv c.learn_graph.ensures)
