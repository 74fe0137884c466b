use Rattle.std.proofs.Common.{◌≡◌, ◌∷◌, ◌++◌, ap, sym, ◌∙◌, arith}
use Rattle.std.proofs.lemmas.Grind.{common_steps}
use Rattle.nd_aterm.specs.Spelling.{characters}
use Rattle.nd_aterm.proofs.StringLemmas.{written_plain}
use Rattle.nd_aterm.proofs.strings.put_characters.Goals as goal

pub loop-byte-init : goal.loop-byte-init
loop-byte-init c = written_plain _ _ _ _ _ c.in_ok-extend_from_slice.ensures.items c.plain_at.ensures.split c.plain_at.ensures.plain

pub loop-byte-preserved : goal.loop-byte-preserved
loop-byte-preserved c rest =
    let first : c.loop-byte.left.now ≡ c.in-Some.byte.now ∷ c.in-Some.after.now = grind (arith, common_steps) in
    written_plain _ _ _ _ _ c.in_ok-extend_from_slice-2.ensures.items c.plain_at-in-Some.ensures.split c.plain_at-in-Some.ensures.plain rest
    ∙ c.in_ok-put_character.ensures (characters c.in-Some.after.now rest)
    ∙ ap (λ t. c.loop-byte.out.items ++ characters t rest) (sym first)
    ∙ c.loop-byte.invariant rest
