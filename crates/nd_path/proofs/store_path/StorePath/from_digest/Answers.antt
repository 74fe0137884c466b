use Rattle.std.proofs.Common.{◌≡◌, ◌∙◌, ◌∷◌, ◌++◌, List, ℕ, sym, subst, rules, append_assoc}
use Rattle.nd_path.specs.StorePath.{store_directory}
use Rattle.nd_path.specs.Refusals.{IsPath}
use Rattle.nd_path.proofs.Parts.{path_of_parts}
use Rattle.nd_path.proofs.store_path.StorePath.from_digest.Goals as goal

pub from_path-requires : goal.from_path-requires
from_path-requires c =
    let parts : c.extend_from_slice-3.new.self.items ≡ store_directory ++ c.args.digest.now ++ 45 ∷ c.args.name.now = search (rules, append_assoc) in
    let whole : c.as_slice.result.now ≡ store_directory ++ c.args.digest.now ++ 45 ∷ c.args.name.now = c.as_slice.ensures.value ∙ parts in
    subst (λ (bytes : List ℕ). IsPath bytes) (sym whole) (path_of_parts c.args.digest.now c.args.name.now c.told-digest c.requires.digest c.requires.name)
