-- That no spelling of a derivation is a proper prefix of another.
use Rattle.std.proofs.Common.{[], ◌++◌, sym, ap, ◌∙◌}
use Rattle.nd_aterm.specs.Derivations.{NoPrefix}
use Rattle.nd_aterm.specs.DerivationsOnce.{derivation_once, derivation_goes}

pub none_is_prefix : NoPrefix
none_is_prefix p q front whole rest spelled_front spelled_whole begins =
    let same = derivation_once p q rest [] (
    sym (derivation_goes p [] rest) ∙ ap (λ t. t ++ rest) (sym spelled_front) ∙ sym begins ∙ spelled_whole
    ) in
    (same.1, same.0)
