use Rattle.std.proofs.Common.{◌≡◌, ◌<◌, ◌≤◌, List, ℕ, length, get_or, refl, sym, subst}
use Rattle.nd_graph.specs.declared.graph.Input.{Input}
use Rattle.nd_history.specs.References.{inputs_at, outputs_of}
use Rattle.nd_provision.specs.Seeds.{GoesOn, paths_at}
use Rattle.nd_provision.proofs.Joined.{with_graph}
use Rattle.nd_provision.proofs.OutputNumbers.{own_there, named_there, places_go_on}
use Rattle.nd_provision.proofs.Seeding.{first_seeds, next_input, seed_row_is}
use Rattle.nd_provision.proofs.needs.seed_row.Goals as goal

pub loop-input-init : goal.loop-input-init
loop-input-init c =
    first_seeds c.args.graph.now c.args.drv c.sources.result.now c.args.numbers.now.paths c.add_numbers.new.numbers.paths c.clear.new.self.items c.add_numbers.new.row.items c.sources.ensures c.clear.ensures.items c.in_ok-add_numbers.ensures.row

pub add_numbers_at-requires : goal.add_numbers_at-requires
add_numbers_at-requires c =
    let graph = c.args.graph.now in
    let inputs : List Input = c.inputs-input-items.result.now in
    let own : List ℕ = c.row-own.result.now in
    let row = own_there graph c.args.drv c.loop-input.input-index c.input-item.result inputs c.args.numbers.now c.add_numbers.new.numbers c.args.outputs.now own c.learn_graph.ensures c.inputs-input-items.ensures.inputs c.loop-input-test.true c.input-item.is c.requires.sized c.in_ok-add_numbers.ensures.grown c.requires.outputs c.row-own.ensures in
    named_there graph c.args.drv c.loop-input.input-index c.input-item.result inputs c.add_numbers.new.numbers.paths own c.as_slice.result.now c.learn_graph.ensures c.inputs-input-items.ensures.inputs c.loop-input-test.true c.input-item.is c.as_slice.ensures row

pub loop-input-preserved : goal.loop-input-preserved
loop-input-preserved c =
    let graph = c.args.graph.now in
    let known : List (List ℕ) = c.add_numbers.new.numbers.paths in
    let inputs : List Input = c.inputs-input-items.result.now in
    let all : List Input = inputs_at (with_graph graph) c.args.drv in
    let n : ℕ = c.loop-input.input-index in
    let input : Input = c.input-item.result in
    let own : List ℕ = c.row-own.result.now in
    let places : List ℕ = c.as_slice.result.now in
    let outputs : List (List ℕ) = outputs_of (with_graph graph) input.node in
    let row = own_there graph c.args.drv n input inputs c.args.numbers.now c.add_numbers.new.numbers c.args.outputs.now own c.learn_graph.ensures c.inputs-input-items.ensures.inputs c.loop-input-test.true c.input-item.is c.requires.sized c.in_ok-add_numbers.ensures.grown c.requires.outputs c.row-own.ensures in
    let within = named_there graph c.args.drv n input inputs known own places c.learn_graph.ensures c.inputs-input-items.ensures.inputs c.loop-input-test.true c.input-item.is c.as_slice.ensures row in
    let goes : GoesOn known known c.loop-input.row.items c.add_numbers_at.new.row.items (paths_at outputs places) =
    subst (λ (ns : List ℕ). GoesOn known known c.loop-input.row.items ns (paths_at outputs places)) (sym c.in_ok-add_numbers_at.ensures) (places_go_on known outputs own places c.loop-input.row.items row within) in
    let at : n < length all = subst (λ (xs : List Input). n < length xs) c.inputs-input-items.ensures.inputs c.loop-input-test.true in
    let is : input ≡ get_or all n input = subst (λ (xs : List Input). input ≡ get_or xs n input) c.inputs-input-items.ensures.inputs c.input-item.is in
    next_input graph c.args.drv n input places outputs known known c.loop-input.row.items c.add_numbers_at.new.row.items at is c.as_slice.ensures refl c.loop-input.invariant goes

pub returns-clause-row : goal.returns-clause-row
returns-clause-row c =
    let graph = c.args.graph.now in
    let past : length (inputs_at (with_graph graph) c.args.drv) ≤ c.loop-input.input-index = subst (λ (xs : List Input). length xs ≤ c.loop-input.input-index) c.inputs-input-items.ensures.inputs c.loop-input-test.false in
    seed_row_is graph c.args.drv c.loop-input.input-index c.add_numbers.new.numbers.paths c.loop-input.row.items c.learn_graph.ensures past c.loop-input.invariant
