use Rattle.std.proofs.Common.{List, ℕ, [], ◌∷◌, length, ap, sym, subst, arith, length-append}
use Rattle.nd_path_numbers.proofs.Growing.{grown_through}
use Rattle.nd_provision.specs.Stored.{AreSeedsIn, IsSeedRow}
use Rattle.nd_provision.proofs.Preparing.{seeds_push}
use Rattle.nd_provision.proofs.OutputNumbers.{outputs_stay}
use Rattle.nd_provision.proofs.needs.seeds_by_number.Goals as goal

pub loop-drv-preserved : goal.loop-drv-preserved
loop-drv-preserved c =
    let row : List ℕ = c.as_slice.result.now in
    let is : IsSeedRow c.args.graph.now c.seed_row.new.numbers.paths c.loop-drv.drv row =
    subst (λ (ns : List ℕ). IsSeedRow c.args.graph.now c.seed_row.new.numbers.paths c.loop-drv.drv ns) (sym c.as_slice.ensures.value) c.in_ok-seed_row.ensures.row in
    record {
      grown = grown_through c.args.numbers.now c.loop-drv.numbers c.seed_row.new.numbers c.loop-drv.invariant.grown c.in_ok-seed_row.ensures.grown;
      size = omega (arith, ap length c.in_ok-add.ensures.ok, length-append c.loop-drv.rows (row ∷ []), c.loop-drv.invariant.size);
      seeds = subst (λ (rows : List (List ℕ)). AreSeedsIn c.args.graph.now c.seed_row.new.numbers.paths rows) (sym c.in_ok-add.ensures.ok)
          (seeds_push c.args.graph.now c.loop-drv.numbers c.seed_row.new.numbers c.loop-drv.rows c.loop-drv.drv row c.loop-drv.invariant.size c.in_ok-seed_row.ensures.grown c.loop-drv.invariant.seeds is);
      outputs = outputs_stay c.args.graph.now.outputs c.loop-drv.numbers c.seed_row.new.numbers c.args.outputs.now c.in_ok-seed_row.ensures.grown c.loop-drv.invariant.outputs;
    }
