use Rattle.std.proofs.Common.{ℕ, List, refl, subst}
use Rattle.std.proofs.lemmas.Result.{err_from_is_err_and}
use Rattle.nd_graph.specs.declared.graph.Input.{Input}
use Rattle.nd_links.specs.Settled.{IsOrderedFault}
use Rattle.nd_links.specs.declared.details.Details.{Details}
use Rattle.nd_bundle.proofs.Assembled.{numbered_ranged}
use Rattle.nd_bundle.proofs.Placed.{are_numbers, ordered_fault}
use Rattle.nd_bundle.proofs.whole.needs_side_by_side.Goals as goal

pub check_order-requires : goal.check_order-requires
check_order-requires g c =
    let paths : List (List ℕ) = c.args.numbered.paths.keys in
    let details : Details = c.args.numbered.details in
    let are = are_numbers paths details paths c.as_slice.result.now c.in_ok-inputs.inputs.items refl c.as_slice.ensures.value c.requires.distinct c.in_ok-inputs.ensures.ok in
    rw c.as_slice-2.ensures.value (numbered_ranged paths details.names.items details.wants.items c.in_ok-inputs.inputs.items are.resolved.numbered c.requires.sized.wants)

pub returns-in_err-check_order-clause-err : goal.returns-in_err-check_order-clause-err
returns-in_err-check_order-clause-err g c =
    let paths : List (List ℕ) = c.args.numbered.paths.keys in
    let details : Details = c.args.numbered.details in
    let are = are_numbers paths details paths c.as_slice.result.now c.in_ok-inputs.inputs.items refl c.as_slice.ensures.value c.requires.distinct c.in_ok-inputs.ensures.ok in
    let p = err_from_is_err_and c.from_residual-in_err-check_order.result c.from_residual-in_err-check_order.ensures.1 in
    rw (p.1, p.2)
    (ordered_fault paths details paths c.in_ok-inputs.inputs.items c.in_err-check_order.field-0.0 are
    (subst (λ (rows : List (List Input)). IsOrderedFault paths rows c.in_err-check_order.field-0.0) c.as_slice-2.ensures.value c.in_err-check_order.ensures.err))
