use Rattle.std.proofs.Common.{◌≡◌, false, arith}
use Rattle.std.proofs.lemmas.Grind.{common_steps}
use Rattle.nd_aterm.specs.Selected.{selected}
use Rattle.nd_aterm.specs.Sifting.{IsKept}
use Rattle.nd_aterm.proofs.selecting.parse_selected.Goals as goal

pub returns-clause-exactly : goal.returns-clause-exactly
returns-clause-exactly g c p short text =
    let kept : IsKept g.S.Selection.selects false p c.in_ok-view.field-0 = c.in_ok-view.ensures.exactly p short text in
    let same : c.in_ok-view.field-0.view ≡ selected g.S.Selection.selects p = kept.view in
    grind (arith, common_steps)
