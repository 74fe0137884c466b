use Rattle.std.proofs.Common.{◌≡◌, true, arith}
use Rattle.std.proofs.lemmas.Grind.{common_steps}
use Rattle.nd_aterm.specs.Selected.{with_args}
use Rattle.nd_aterm.specs.Sifting.{IsKept}
use Rattle.nd_aterm.proofs.SelectingLemmas.{whole_same}
use Rattle.nd_aterm.proofs.texts.parse.Goals as goal

pub returns-clause-exactly : goal.returns-clause-exactly
returns-clause-exactly c p short text =
    let kept : IsKept (λ _. true) true p c.in_ok-view.field-0 = c.in_ok-view.ensures.exactly p short text in
    let same : with_args c.in_ok-view.field-0.view c.in_ok-view.field-0.args ≡ p = whole_same p c.in_ok-view.field-0 kept in
    grind (arith, common_steps)
