use Rattle.std.proofs.Common.{List, ℕ, [], ◌∷◌, length, get_or, ap, sym, subst, arith, length-append}
use Rattle.nd_path_numbers.specs.Numbers.{AreNumbersOf}
use Rattle.nd_path_numbers.proofs.Growing.{grown_through}
use Rattle.nd_provision.specs.Outputs.{AreOutputRows}
use Rattle.nd_provision.proofs.OutputNumbers.{outputs_push, row_anew}
use Rattle.nd_provision.proofs.needs.outputs_by_number.Goals as goal

pub loop-drv-preserved : goal.loop-drv-preserved
loop-drv-preserved c =
    let row : List ℕ = c.as_slice.result.now in
    let known : List (List ℕ) = c.add_numbers.new.numbers.paths in
    let outputs : List (List (List ℕ)) = c.args.graph.now.outputs in
    let made : AreNumbersOf known (get_or outputs c.loop-drv.drv []) c.add_numbers.new.row.items =
    row_anew c.loop-drv.numbers.paths known c.clear.new.self.items c.add_numbers.new.row.items c.outputs.result.now (get_or outputs c.loop-drv.drv []) c.clear.ensures.items c.outputs.ensures c.in_ok-add_numbers.ensures.row in
    let is : AreNumbersOf known (get_or outputs c.loop-drv.drv []) row = subst (λ (ns : List ℕ). AreNumbersOf known (get_or outputs c.loop-drv.drv []) ns) (sym c.as_slice.ensures.value) made in
    record {
      grown = grown_through c.args.numbers.now c.loop-drv.numbers c.add_numbers.new.numbers c.loop-drv.invariant.grown c.in_ok-add_numbers.ensures.grown;
      size = omega (arith, ap length c.in_ok-add.ensures.ok, length-append c.loop-drv.rows (row ∷ []), c.loop-drv.invariant.size);
      outputs = subst (λ (rows : List (List ℕ)). AreOutputRows outputs known rows) (sym c.in_ok-add.ensures.ok)
          (outputs_push outputs c.loop-drv.numbers c.add_numbers.new.numbers c.loop-drv.rows c.loop-drv.drv row c.loop-drv.invariant.size c.in_ok-add_numbers.ensures.grown c.loop-drv.invariant.outputs is);
    }
