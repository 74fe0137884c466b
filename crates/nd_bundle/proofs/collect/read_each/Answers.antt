use Rattle.std.proofs.Common.{ap, subst, ◌∙◌, Bor, List, ℕ, map}
use Rattle.rayon.proofs.ListFacts.{IfOk-then}
use Rattle.rayon.proofs.ToStd.{slice-AllZip}
use Rattle.std.specs.List.{AllZip}
use Rattle.nd_bundle.specs.Pieces.{IsReadText}
use Rattle.nd_bundle.specs.declared.manner.Manner.{Manner}
use Rattle.nd_bundle.proofs.Pieced.{IsReadShown, shown_read}
use Rattle.nd_bundle.proofs.collect.read_each.Goals as goal

pub returns : goal.returns
returns g c =
    let slice = ap (λ it. it.base.slice.now) c.map.ensures.base ∙ ap (λ it. it.slice.now) c.with_min_len.ensures.base ∙ c.par_iter.ensures in
    let kept = c.map.result.f.1.now in
    IfOk-then c.collect.result _ _ c.collect.ensures (λ v h.
    let chain = h.1 in
    rw h.2 (subst (λ (manner : Manner). AllZip (IsReadText manner) (map (λ (text : Bor (List ℕ)). text.now) c.args.texts.now) h.0) (ap (λ f. f.1.now) c.map.ensures.f)
    (shown_read kept c.args.texts.now h.0 (slice-AllZip chain.0 c.args.texts.now (chain.1 ∙ slice) (IsReadShown kept) h.0 chain.2))))
