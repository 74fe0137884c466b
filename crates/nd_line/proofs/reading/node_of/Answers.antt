use Rattle.std.proofs.Common.{ℕ, List, subst}
use Rattle.std.proofs.lemmas.Result.{err_from_is_err_and}
use Rattle.nd_line.specs.Attributes.{Needs}
use Rattle.nd_line.proofs.Sayings.{tells, bad_need}
use Rattle.nd_line.proofs.reading.node_of.Goals as goal

pub returns-clause-tells : goal.returns-clause-tells
returns-clause-tells c =
    let found = c.in_ok-inputs.ensures.found in
    let needs = subst (λ (p : List ℕ). Needs p c.as_slice.result.now c.as_slice-2.result.now c.in_ok-need.need) c.in_ok-platform.ensures c.in_ok-need.ensures.ok in
    (found.0, tells c.args.text.now found.0 c.in_ok-inputs.field-0 c.args.path c.as_slice.result.now c.as_slice-2.result.now c.in_ok-need.need found.1 found.2 c.if-not-known.false c.as_slice.ensures c.as_slice-2.ensures needs)

pub returns-in_err-need-clause-err : goal.returns-in_err-need-clause-err
returns-in_err-need-clause-err c =
    let p = err_from_is_err_and c.from_residual-in_err-need.result c.from_residual-in_err-need.ensures.1 in
    let found = c.in_ok-inputs.ensures.found in
    rw (p.1, p.2) (bad_need c.args.text.now found.0 c.in_ok-inputs.field-0 c.args.path c.as_slice-2.result.now c.in_err-need.field-0.0 found.1 found.2 c.if-not-known.false c.as_slice-2.ensures c.in_err-need.ensures.err)
