-- The output names that were read of an input derivation.
-- No public clause cites this: it is what contracts see of such names.
use Rattle.std.specs.Prelude.{ℕ, List, [], ◌∷◌}
use Rattle.nd_aterm.specs.declared.names.KeptNames.{KeptNames}
use Rattle.nd_aterm.specs.declared.names.KeptNames.TheVariants.{One, Many}

abbrev pub names_in : KeptNames → List (List ℕ)
names_in (One name) = name ∷ []
names_in (Many names) = names
