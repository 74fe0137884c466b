use Rattle.std.proofs.Common.{◌≡◌, true, List, ℕ, ap, sym, ◌∙◌, subst}
use Rattle.std.proofs.lemmas.Result.{IfOk-weaker}
use Rattle.nd_path_numbers.specs.Numbers.{Numbered}
use Rattle.nd_path_numbers.specs.Held.{Hold, hold_of}
use Rattle.nd_path_numbers.specs.Searches.{FindsUnheld}
use Rattle.nd_history.specs.Premises.{premises_of}
use Rattle.nd_provision.specs.Stored.{Stored, IsMissingBy}
use Rattle.nd_provision.proofs.Storing.{unheld_by}
use Rattle.nd_provision.proofs.stores.Stores.missing.Goals as goal

pub returns : goal.returns
returns c =
    let i = premises_of c.args.inputs.now in
    let now = c.args.self.now in
    let hold = hold_of now.stocks c.args.m in
    let held : c.held.result.now ≡ hold = c.held.ensures ∙ ap (λ (s : Stored). hold_of s.stocks c.args.m) c.self.view_is in
    let numbers : c.self.inside.numbers ≡ now.numbers = ap (λ (s : Stored). s.numbers) c.self.view_is in
    let whole : now.whole ≡ true = sym (ap (λ (s : Stored). s.whole) c.self.view_is) ∙ c.if-not-self.false in
    IfOk-weaker c.reach_unheld.result (FindsUnheld c.self.inside.numbers c.held.result.now.numbers c.seeds-seeds.result.now) (IsMissingBy i now c.args.drv c.args.m)
    (λ paths found. unheld_by i now c.args.drv c.args.m paths c.requires.machine c.requires.drv whole
    (subst (λ (ns : List ℕ). FindsUnheld now.numbers hold.numbers ns paths) c.seeds-seeds.ensures
    (subst (λ (n : Numbered). FindsUnheld n hold.numbers c.seeds-seeds.result.now paths) numbers
    (subst (λ (h : Hold). FindsUnheld c.self.inside.numbers h.numbers c.seeds-seeds.result.now paths) held found))))
    c.reach_unheld.ensures
