use Rattle.std.proofs.Common.{◌≡◌, [], false, ap, ◌∙◌, arith}
use Rattle.std.proofs.lemmas.Grind.{common_steps}
use Rattle.nd_aterm.specs.Derivations.{derivation}
use Rattle.nd_aterm.specs.Sifting.{is_in_order}
use Rattle.nd_aterm.proofs.SelectingLemmas.{none_whole, kept_same, none_in_order}
use Rattle.nd_aterm.proofs.selecting.kept_parts.Goals as goal

pub returns-then-not-is_empty-clause-exactly : goal.returns-then-not-is_empty-clause-exactly
returns-then-not-is_empty-clause-exactly g c p short text =
    absurd (none_whole g.S.Selection.selects _ _ _ _ c.in_ok-parts.ensures.found (λ ends. grind (arith, common_steps)) p text.0)

pub returns-then-not-is_empty-clause-refused : goal.returns-then-not-is_empty-clause-refused
returns-then-not-is_empty-clause-refused g c =
    (c.if-bytes-gt-TEXT_LIMIT.false, none_whole g.S.Selection.selects _ _ _ _ c.in_ok-parts.ensures.found (λ ends. grind (arith, common_steps)))

pub returns-then-not-is_selected_in_order-clause-exactly : goal.returns-then-not-is_selected_in_order-clause-exactly
returns-then-not-is_selected_in_order-clause-exactly g c p short text =
    let falls : is_in_order c.in_ok-parts.parts.view c.in_ok-parts.parts.rising ≡ false = grind (arith, common_steps) in
    absurd (none_in_order g.S.Selection.selects _ _ _ _ c.in_ok-parts.ensures.found falls p text)

pub returns-then-not-is_selected_in_order-clause-refused : goal.returns-then-not-is_selected_in_order-clause-refused
returns-then-not-is_selected_in_order-clause-refused g c =
    let falls : is_in_order c.in_ok-parts.parts.view c.in_ok-parts.parts.rising ≡ false = grind (arith, common_steps) in
    let ends : c.in_ok-parts.rest.now ≡ [] = grind (arith, common_steps) in
    let has = c.in_ok-parts.ensures.found in
    (c.if-bytes-gt-TEXT_LIMIT.false, (has.parts, has.spelled ∙ ap (derivation has.parts) ends), none_in_order g.S.Selection.selects _ _ _ _ has falls)

pub returns-clause-exactly : goal.returns-clause-exactly
returns-clause-exactly g c p short text = kept_same g.S.Selection.selects _ _ _ _ c.in_ok-parts.ensures.found p text.0
