-- What is learnt of an entry by looking at it.
use Rattle.std.proofs.Common.{◌≡◌, ◌∙◌, ℕ, ◌+◌, ◌<◌, List, length, get_or, subst}
use Rattle.std.specs.List.{All, AllWithin}
use Rattle.std.proofs.lemmas.List.Elements.{AllWithin-more}
use Rattle.std.proofs.lemmas.List.{get_or_default}
use Rattle.nd_path.specs.Refusals.{IsPath}
use Rattle.nd_path.specs.PathSets.{IsRising}
use Rattle.nd_history_text.specs.Sound.{IsPathSet}

pub set_looked : (set paths : List (List ℕ)) → paths ≡ set → IsRising paths → All IsPath paths → IsPathSet set
set_looked set paths same rising are = subst IsPathSet same (record { paths = are; rising = rising })

pub one_more : {X : Type 0} (P : X → Type 0) (xs : List X) (i : ℕ) (x : X) → i < length xs → x ≡ get_or xs i x → AllWithin P xs 0 i → P x → AllWithin P xs 0 (i + 1)
one_more P xs i x within is so_far here = AllWithin-more P xs 0 i so_far (λ d. subst P (is ∙ get_or_default xs i x d within) here)

pub ruleset looks = (set_looked)
