use Rattle.std.proofs.Common.{◌≡◌, List, ℕ, [], ap, subst}
use Rattle.std.proofs.lemmas.Result.{IfOk-weaker}
use Rattle.nd_path_numbers.specs.Numbers.{Numbered}
use Rattle.nd_path_numbers.specs.Searches.{FindsUnheld}
use Rattle.nd_history.specs.Premises.{premises_of}
use Rattle.nd_provision.specs.Stored.{Stored, IsClosureBy}
use Rattle.nd_provision.proofs.Storing.{closure_by}
use Rattle.nd_provision.proofs.stores.Stores.closure.Goals as goal

pub returns : goal.returns
returns c =
    let i = premises_of c.args.inputs.now in
    let now = c.args.self.now in
    let numbers : c.self.inside.numbers ≡ now.numbers = ap (λ (s : Stored). s.numbers) c.self.view_is in
    IfOk-weaker c.reach_unheld.result (FindsUnheld c.self.inside.numbers c.new-nothing.result.numbers c.seeds-seeds.result.now) (IsClosureBy i now c.args.drv)
    (λ paths found. closure_by i now c.args.drv paths c.requires
    (subst (λ (ns : List ℕ). FindsUnheld now.numbers [] ns paths) c.seeds-seeds.ensures
    (subst (λ (n : Numbered). FindsUnheld n [] c.seeds-seeds.result.now paths) numbers
    (subst (λ (hs : List ℕ). FindsUnheld c.self.inside.numbers hs c.seeds-seeds.result.now paths) c.new-nothing.ensures found))))
    c.reach_unheld.ensures
