use Rattle.std.proofs.Common.{◌≡◌, List, ℕ, ap, ◌∙◌, subst}
use Rattle.std.proofs.lemmas.Result.{IfOk-weaker}
use Rattle.nd_path_numbers.specs.Numbers.{Numbered}
use Rattle.nd_path_numbers.specs.Held.{Hold, hold_of}
use Rattle.nd_history.specs.Premises.{premises_of}
use Rattle.nd_provision.specs.Stored.{Stored, IsMissingBy, Lacks}
use Rattle.nd_provision.proofs.Storing.{missing_by}
use Rattle.nd_provision.proofs.stores.Stores.walk_missing.Goals as goal

pub returns : goal.returns
returns c =
    let i = premises_of c.args.inputs.now in
    let now = c.args.self.now in
    let hold = hold_of now.stocks c.args.m in
    let closure : List (List ℕ) = c.in_ok-closure.closure in
    let held : c.held.result.now ≡ hold = c.held.ensures ∙ ap (λ (s : Stored). hold_of s.stocks c.args.m) c.self.view_is in
    let numbers : c.self.inside.numbers ≡ now.numbers = ap (λ (s : Stored). s.numbers) c.self.view_is in
    IfOk-weaker c.lacked.result (Lacks c.self.inside.numbers.paths c.held.result.now.numbers closure) (IsMissingBy i now c.args.drv c.args.m)
    (λ paths lacks. missing_by i now c.args.drv c.args.m closure paths c.requires.machine c.in_ok-closure.ensures
    (subst (λ (n : Numbered). Lacks n.paths hold.numbers closure paths) numbers
    (subst (λ (h : Hold). Lacks c.self.inside.numbers.paths h.numbers closure paths) held lacks)))
    c.lacked.ensures
