use Rattle.std.proofs.Common.{◌∷◌, sym, ap, ◌∙◌, arith}
use Rattle.std.proofs.lemmas.Grind.{common_steps}
use Rattle.std.proofs.lemmas.Result.{err_from_is_err_and}
use Rattle.nd_aterm.specs.Spelling.{comma, listed}
use Rattle.nd_aterm.proofs.ListLemmas.{listed-push, listed_end, listed_refused}
use Rattle.nd_aterm.proofs.lists.listed_at.Goals as goal

pub returns-in_err-item-clause-none : goal.returns-in_err-item-clause-none
returns-in_err-item-clause-none g c =
    let p = err_from_is_err_and c.from_residual-in_err-item.result c.from_residual-in_err-item.ensures.1 in
    rw (p.1, p.2) (
    listed_refused g.T.Part.text g.T.Part.once g.T.Part.opens _ _ _ _ _
    c.loop-after.invariant.spelled c.loop-after.invariant.some c.in-Some.ensures c.in_err-item.ensures.none
    )

pub loop-after-preserved : goal.loop-after-preserved
loop-after-preserved g c = record {
  spelled = rw c.in_ok-push-2.ensures.items (
      c.loop-after.invariant.spelled ∙ ap (listed g.T.Part.text _) (c.in-Some.ensures ∙ ap (λ t. comma ∷ t) c.in_ok-item.ensures.found)
      ∙ sym (listed-push g.T.Part.text _ _ _ c.loop-after.invariant.some)
      );
  some = grind (arith, common_steps);
  shorter = grind (arith, common_steps);
}

pub returns-in_err-rest-clause-none : goal.returns-in_err-rest-clause-none
returns-in_err-rest-clause-none g c =
    grind (arith, common_steps, listed_end g.T.Part.text g.T.Part.once g.T.Part.opens)
