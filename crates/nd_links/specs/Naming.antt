-- The names of outputs that are kept. Serves proofs alone.
use Rattle.std.specs.Prelude.{ℕ, List, [], ◌∷◌}
use Rattle.nd_links.specs.declared.names.Kept.{Kept}
use Rattle.nd_links.specs.declared.names.Kept.TheVariants.{One, Many}

abbrev pub names_in : Kept → List (List ℕ)
names_in (One name) = name ∷ []
names_in (Many names) = names.value.items
