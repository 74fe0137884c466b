-- The places of the outputs that an input names. Serves proofs alone.
use Rattle.std.specs.Prelude.{ℕ, List, [], ◌∷◌}
use Rattle.nd_graph.specs.declared.places.Held.{Held}
use Rattle.nd_graph.specs.declared.places.Held.TheVariants.{One, Many}

abbrev pub places_in : Held → List ℕ
places_in (One place) = place ∷ []
places_in (Many places) = places.value.items
