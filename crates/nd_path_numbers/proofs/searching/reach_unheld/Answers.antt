use Rattle.std.proofs.Common.{List, ℕ, subst, sym}
use Rattle.std.proofs.lemmas.Result.{IfOk-weaker}
use Rattle.nd_path_numbers.specs.Numbers.{IsSetOf}
use Rattle.nd_path_numbers.specs.Searches.{AreUnheld, FindsUnheld}
use Rattle.nd_path_numbers.proofs.Searched.{unheld_named}
use Rattle.nd_path_numbers.proofs.searching.reach_unheld.Goals as goal

pub returns : goal.returns
returns c =
    let found : List ℕ = c.as_slice.result.now in
    let are : AreUnheld c.args.numbers.now.rows c.args.held.now.numbers c.args.seeds.now found =
    subst (λ (ns : List ℕ). AreUnheld c.args.numbers.now.rows c.args.held.now.numbers c.args.seeds.now ns) (sym c.as_slice.ensures) c.in_ok-found.ensures in
    IfOk-weaker c.set_of.result (IsSetOf c.args.numbers.now.paths found) (FindsUnheld c.args.numbers.now c.args.held.now.numbers c.args.seeds.now)
    (λ s set. record {
      tells = λ entries told held seeds. unheld_named entries c.args.numbers.now c.args.held.now.numbers c.args.seeds.now found s told held seeds are set.tells;
    })
    c.set_of.ensures
