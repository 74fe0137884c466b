use Rattle.std.proofs.Common.{arith, ap, ◌+◌, ◌-◌, ◌∙◌, ◌≡◌, ℕ, List, length, Contains, get_or, subst, sym}
use Rattle.nd_graph.specs.Graphs.{needed}
use Rattle.nd_graph.specs.Walks.{inputs_of}
use Rattle.nd_graph.specs.declared.graph.Input.{Input}
use Rattle.nd_graph.proofs.Rows.{next_read, row_length}
use Rattle.nd_graph.proofs.order.next_input.Goals as goal

pub returns : goal.returns
returns c =
    let row : List Input = c.as_slice-row.result.now in
    let steps : ℕ = get_or c.args.left.now c.args.top 0 in
    let is : row ≡ get_or c.args.inputs.now c.args.top row = c.as_slice-row.ensures ∙ c.index-inputs-top.is ∙ ap (λ (x : List Input). get_or c.args.inputs.now c.args.top x) (sym c.as_slice-row.ensures) in
    let long : length (inputs_of (needed c.args.inputs.now) c.args.top) ≡ length row = row_length c.args.inputs.now c.args.top row c.requires.within is in
    let place : length row + 1 - steps ≡ length (inputs_of (needed c.args.inputs.now) c.args.top) + 1 - steps = ap (λ (n : ℕ). n + 1 - steps) (sym long) in
    let read = next_read c.args.inputs.now c.args.top (length row + 1 - steps) row c.index-row-row.result c.requires.within is (omega (arith, c.requires.few, c.if-steps-eq1.false)) c.index-row-row.is in
    let same = ap (λ (i : Input). i.node) c.index-row-row.is in (
      omega (arith, c.requires.some, c.if-steps-eq1.false),
      subst (λ (x : ℕ). Contains (inputs_of (needed c.args.inputs.now) c.args.top) x) same read.0,
      sym same ∙ read.1 ∙ ap (λ (i : ℕ). get_or (inputs_of (needed c.args.inputs.now) c.args.top) i 0) place,
    )
