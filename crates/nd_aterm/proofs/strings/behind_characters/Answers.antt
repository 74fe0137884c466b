use Rattle.std.proofs.Common.{sym, ap, ◌∙◌, arith}
use Rattle.std.proofs.lemmas.Grind.{common_steps}
use Rattle.std.proofs.lemmas.Result.{IfErr-weaker}
use Rattle.nd_aterm.specs.Spelling.{character, characters}
use Rattle.nd_aterm.proofs.RefusalLemmas.{Refuses-as}
use Rattle.nd_aterm.proofs.StringLemmas.{characters-step, characters_end}
use Rattle.nd_aterm.proofs.strings.behind_characters.Goals as goal

pub loop-after-preserved : goal.loop-after-preserved
loop-after-preserved c = record {
  begins = record {
    whole = _;
    spelled =
        c.loop-after.invariant.begins.spelled ∙ ap (characters _) (c.in-Some.ensures.found ∙ ap (character _) c.plain_at-in-Some.ensures.split)
        ∙ sym (characters-step _ _ _ _ c.plain_at-in-Some.ensures.plain);
  };
  shorter = grind (arith, common_steps);
}

pub returns-clause-none : goal.returns-clause-none
returns-clause-none c =
    IfErr-weaker c.expect.result _ _
    (λ e why.
    Refuses-as e _ _ (λ no_quote ds r is. characters_end _ _ c.in_default.ensures.found no_quote ds r (sym c.loop-after.invariant.begins.spelled ∙ is)) why)
    c.expect.ensures.none
