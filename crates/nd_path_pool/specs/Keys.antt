-- The bytes of a key that stands for a store path.
-- No public clause cites this: it is what contracts see of such a key.
use Rattle.std.specs.Prelude.{ℕ, List}
use Rattle.nd_path_pool.specs.declared.path_key.Kept.{Kept}
use Rattle.nd_path_pool.specs.declared.path_key.Kept.TheVariants.{Piece, Owned}

abbrev pub bytes_of : Kept → List ℕ
bytes_of (Piece piece) = piece.now
bytes_of (Owned path) = path
