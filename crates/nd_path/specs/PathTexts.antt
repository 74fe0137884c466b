-- The bytes of a path, however they are kept. Serves proofs alone.
use Rattle.std.specs.Prelude.{ℕ, List}
use Rattle.nd_path.specs.declared.path_text.Kept.{Kept}
use Rattle.nd_path.specs.declared.path_text.Kept.TheVariants.{Short, Long}

abbrev pub bytes_in : Kept → List ℕ
bytes_in (Short bytes) = bytes
bytes_in (Long bytes) = bytes.items
