use Rattle.std.proofs.Common.{◌≡◌, ℕ, List, refl}
use Rattle.std.proofs.lemmas.Result.{err_from_is_err_and, IfErr-weaker, IfOk-weaker}
use Rattle.nd_graph.specs.Graphs.{nodes_with}
use Rattle.nd_links.specs.Settled.{links_in, IsGraphOfRows, IsOrderedFault}
use Rattle.nd_links.specs.Whole.{IsWholeFault}
use Rattle.nd_links.specs.declared.details.Details.{Details}
use Rattle.nd_bundle.proofs.Placed.{are_numbers, graph_parts, in_range, ordered_fault, sound, unlinked_fault}
use Rattle.nd_bundle.proofs.whole.graph_side_by_side.Goals as goal

pub graph_with-requires-clause-ranged : goal.graph_with-requires-clause-ranged
graph_with-requires-clause-ranged g c =
    in_range c.args.numbered.paths.keys c.args.numbered.details c.args.numbered.paths.keys c.in_ok-inputs.inputs.items
    (are_numbers c.args.numbered.paths.keys c.args.numbered.details c.args.numbered.paths.keys c.as_slice.result.now c.in_ok-inputs.inputs.items refl c.as_slice.ensures.value c.requires.distinct c.in_ok-inputs.ensures.ok) c.requires.sized

pub graph_with-requires-clause-sound : goal.graph_with-requires-clause-sound
graph_with-requires-clause-sound g c = λ few.
    sound c.args.numbered.paths.keys c.args.numbered.details c.args.numbered.paths.keys c.in_ok-inputs.inputs.items
    (are_numbers c.args.numbered.paths.keys c.args.numbered.details c.args.numbered.paths.keys c.as_slice.result.now c.in_ok-inputs.inputs.items refl c.as_slice.ensures.value c.requires.distinct c.in_ok-inputs.ensures.ok)
    c.requires.sized c.requires.paired few

pub returns-clause-ok : goal.returns-clause-ok
returns-clause-ok g c =
    let paths : List (List ℕ) = c.args.numbered.paths.keys in
    let details : Details = c.args.numbered.details in
    let are = are_numbers paths details paths c.as_slice.result.now c.in_ok-inputs.inputs.items refl c.as_slice.ensures.value c.requires.distinct c.in_ok-inputs.ensures.ok in
    IfOk-weaker c.graph_with.result (λ graph. graph ≡ nodes_with paths details.needs.items c.in_ok-inputs.inputs.items details.sources.items details.outputs.items) (λ graph. IsGraphOfRows paths details graph)
    (λ graph is. graph_parts paths details paths c.in_ok-inputs.inputs.items graph are is) c.graph_with.ensures.ok

pub returns-clause-err : goal.returns-clause-err
returns-clause-err g c =
    let paths : List (List ℕ) = c.args.numbered.paths.keys in
    let details : Details = c.args.numbered.details in
    let are = are_numbers paths details paths c.as_slice.result.now c.in_ok-inputs.inputs.items refl c.as_slice.ensures.value c.requires.distinct c.in_ok-inputs.ensures.ok in
    IfErr-weaker c.graph_with.result (λ e. IsOrderedFault paths c.in_ok-inputs.inputs.items e) (λ e. IsWholeFault (links_in paths details) e)
    (λ e why. ordered_fault paths details paths c.in_ok-inputs.inputs.items e are why) c.graph_with.ensures.err

pub returns-in_err-inputs-clause-err : goal.returns-in_err-inputs-clause-err
returns-in_err-inputs-clause-err g c =
    let p = err_from_is_err_and c.from_residual.result c.from_residual.ensures.1 in
    rw (p.1, p.2)
    (unlinked_fault c.args.numbered.paths.keys c.args.numbered.details c.args.numbered.paths.keys c.as_slice.result.now c.in_err-inputs.field-0.0 refl c.as_slice.ensures.value c.requires.distinct c.in_err-inputs.ensures.err)
