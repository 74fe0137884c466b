use Rattle.std.proofs.Common.{ap, subst, ◌∙◌, List}
use Rattle.std.specs.List.{AllZip}
use Rattle.rayon.proofs.ListFacts.{IfOk-then}
use Rattle.rayon.specs.Lists.{vec_items}
use Rattle.nd_links.specs.Linking.{AreLinks, IsLink, Known}
use Rattle.nd_line.specs.declared.line.NamedInput.{NamedInput}
use Rattle.nd_links.proofs.linking.link_lines_in_parallel.Goals as goal

pub returns : goal.returns
returns g c =
    let kept : Known = c.map.result.f.1.now in
    let items = ap (λ it. vec_items it) c.map.ensures.base ∙ c.into_par_iter.ensures in
    IfOk-then c.collect.result _ _ c.collect.ensures (λ v h.
    let chain = h.1 in
    rw h.2 (subst (λ (known : Known). AreLinks known c.args.wants.items h.0) (ap (λ f. f.1.now) c.map.ensures.f)
    (record { each = subst (λ (xs : List (List NamedInput)). AllZip (IsLink kept) xs h.0) (chain.1 ∙ items) chain.2 })))
