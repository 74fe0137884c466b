use Rattle.std.proofs.Common.{◌≡◌, ℕ, List}
use Rattle.std.proofs.lemmas.Result.{err_from_is_err_and, IfErr-weaker, IfOk-weaker}
use Rattle.nd_graph.specs.Graphs.{nodes_with}
use Rattle.nd_links.specs.Settled.{links_in, IsGraphOfRows, IsOrderedFault}
use Rattle.nd_links.specs.Whole.{IsWholeFault}
use Rattle.nd_links.specs.declared.details.Details.{Details}
use Rattle.nd_bundle.proofs.Placed.{are_numbers, graph_parts, in_range, ordered_fault, sound, unlinked_fault}
use Rattle.nd_bundle.proofs.whole.graph_of.Goals as goal

pub graph_with-requires-clause-ranged : goal.graph_with-requires-clause-ranged
graph_with-requires-clause-ranged c =
    in_range c.args.columns.paths.items c.args.columns.details c.in_ok-paths.paths.keys c.in_ok-inputs.inputs.items
    (are_numbers c.args.columns.paths.items c.args.columns.details c.in_ok-paths.paths.keys c.as_slice.result.now c.in_ok-inputs.inputs.items c.in_ok-paths.ensures.ok c.as_slice.ensures.value c.in_ok-paths.ensures.distinct c.in_ok-inputs.ensures.ok) c.requires.sized

pub graph_with-requires-clause-sound : goal.graph_with-requires-clause-sound
graph_with-requires-clause-sound c = λ few.
    sound c.args.columns.paths.items c.args.columns.details c.in_ok-paths.paths.keys c.in_ok-inputs.inputs.items
    (are_numbers c.args.columns.paths.items c.args.columns.details c.in_ok-paths.paths.keys c.as_slice.result.now c.in_ok-inputs.inputs.items c.in_ok-paths.ensures.ok c.as_slice.ensures.value c.in_ok-paths.ensures.distinct c.in_ok-inputs.ensures.ok)
    c.requires.sized c.requires.paired few

pub returns-clause-ok : goal.returns-clause-ok
returns-clause-ok c =
    let paths : List (List ℕ) = c.args.columns.paths.items in
    let details : Details = c.args.columns.details in
    let are = are_numbers paths details c.in_ok-paths.paths.keys c.as_slice.result.now c.in_ok-inputs.inputs.items c.in_ok-paths.ensures.ok c.as_slice.ensures.value c.in_ok-paths.ensures.distinct c.in_ok-inputs.ensures.ok in
    IfOk-weaker c.graph_with.result (λ graph. graph ≡ nodes_with c.in_ok-paths.paths.keys details.needs.items c.in_ok-inputs.inputs.items details.sources.items details.outputs.items) (λ graph. IsGraphOfRows paths details graph)
    (λ graph is. graph_parts paths details c.in_ok-paths.paths.keys c.in_ok-inputs.inputs.items graph are is) c.graph_with.ensures.ok

pub returns-clause-err : goal.returns-clause-err
returns-clause-err c =
    let paths : List (List ℕ) = c.args.columns.paths.items in
    let details : Details = c.args.columns.details in
    let are = are_numbers paths details c.in_ok-paths.paths.keys c.as_slice.result.now c.in_ok-inputs.inputs.items c.in_ok-paths.ensures.ok c.as_slice.ensures.value c.in_ok-paths.ensures.distinct c.in_ok-inputs.ensures.ok in
    IfErr-weaker c.graph_with.result (λ e. IsOrderedFault c.in_ok-paths.paths.keys c.in_ok-inputs.inputs.items e) (λ e. IsWholeFault (links_in paths details) e)
    (λ e why. ordered_fault paths details c.in_ok-paths.paths.keys c.in_ok-inputs.inputs.items e are why) c.graph_with.ensures.err

pub returns-in_err-inputs-clause-err : goal.returns-in_err-inputs-clause-err
returns-in_err-inputs-clause-err c =
    let p = err_from_is_err_and c.from_residual-in_err-inputs.result c.from_residual-in_err-inputs.ensures.1 in
    rw (p.1, p.2)
    (unlinked_fault c.args.columns.paths.items c.args.columns.details c.in_ok-paths.paths.keys c.as_slice.result.now c.in_err-inputs.field-0.0 c.in_ok-paths.ensures.ok c.as_slice.ensures.value c.in_ok-paths.ensures.distinct c.in_err-inputs.ensures.err)
