use Rattle.std.proofs.Common.{◌≡◌, List, ℕ, ap, ◌∙◌, subst}
use Rattle.std.specs.Prelude.{OnSome}
use Rattle.std.proofs.lemmas.Result.{IfOk-weaker}
use Rattle.nd_path_numbers.specs.Numbers.{Numbered}
use Rattle.nd_path_numbers.specs.Held.{Hold, hold_of}
use Rattle.nd_path_numbers.specs.Searches.{FindsUnheld}
use Rattle.nd_provision.specs.Copies.{IsMissingIn}
use Rattle.nd_provision.specs.Stored.{Stored}
use Rattle.nd_provision.proofs.Copied.{on_some, missing_in}
use Rattle.nd_provision.proofs.stores.Stores.match_missing.Goals as goal

pub returns-clause-missing : goal.returns-clause-missing
returns-clause-missing c =
    let now = c.args.self.now in
    let hold = hold_of now.stocks c.args.m in
    let paths : List (List ℕ) = c.args.paths.now in
    let held : c.held-held.result.now ≡ hold = c.held-held.ensures ∙ ap (λ (s : Stored). hold_of s.stocks c.args.m) c.self.view_is in
    let numbers : c.self.inside.numbers ≡ now.numbers = ap (λ (s : Stored). s.numbers) c.self.view_is in
    IfOk-weaker c.match_unheld.result (λ r. OnSome r (FindsUnheld c.self.inside.numbers c.held-held.result.now.numbers c.seeds-seeds.result.now c.as_slice.result.now)) (λ r. OnSome r (IsMissingIn now c.args.drv c.args.m paths))
    (λ r. on_some r (λ found. missing_in now c.args.drv c.args.m paths c.requires.machine c.requires.whole
    (subst (λ (ns : List ℕ). FindsUnheld now.numbers hold.numbers ns paths) c.seeds-seeds.ensures
    (subst (λ (n : Numbered). FindsUnheld n hold.numbers c.seeds-seeds.result.now paths) numbers
    (subst (λ (h : Hold). FindsUnheld c.self.inside.numbers h.numbers c.seeds-seeds.result.now paths) held
    (subst (λ (xs : List (List ℕ)). FindsUnheld c.self.inside.numbers c.held-held.result.now.numbers c.seeds-seeds.result.now xs) c.as_slice.ensures.value found))))))
    c.match_unheld.ensures.found
