-- The flags of a set, however they are kept. Serves proofs alone.
use Rattle.std.specs.Prelude.{Bool, List}
use Rattle.nd_flags.specs.declared.node_set.Kept.{Kept}
use Rattle.nd_flags.specs.declared.node_set.Kept.TheVariants.{Few, Many}

abbrev pub flags_in : Kept → List Bool
flags_in (Few row) = row
flags_in (Many rows) = rows.value
