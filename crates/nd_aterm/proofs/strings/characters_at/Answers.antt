use Rattle.std.proofs.Common.{ap, sym, ◌∙◌, arith}
use Rattle.std.proofs.lemmas.Grind.{common_steps}
use Rattle.nd_aterm.specs.Spelling.{character, characters}
use Rattle.nd_aterm.proofs.StringLemmas.{characters-step, characters_end}
use Rattle.nd_aterm.proofs.strings.characters_at.Goals as goal

pub loop-byte-preserved : goal.loop-byte-preserved
loop-byte-preserved c = record {
  spelled = rw (c.in_ok-extend_from_slice.ensures.items, c.in_ok-push.ensures.items) (
      c.loop-byte.invariant.spelled ∙ ap (characters _) (c.in-Some.ensures.found ∙ ap (character _) c.plain_at-in-Some.ensures.split)
      ∙ sym (characters-step _ _ _ _ c.plain_at-in-Some.ensures.plain)
      );
  shorter = grind (arith, common_steps);
}

pub returns-in_err-rest-clause-none : goal.returns-in_err-rest-clause-none
returns-in_err-rest-clause-none c = grind (arith, common_steps, characters_end)
