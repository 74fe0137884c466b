-- The bytes of a string that was read of a derivation text.
-- No public clause cites this: it is what contracts see of such a string.
use Rattle.std.specs.Prelude.{ℕ, List}
use Rattle.nd_aterm.specs.declared.leaf.Kept.{Kept}
use Rattle.nd_aterm.specs.declared.leaf.Kept.TheVariants.{Piece, Owned}

abbrev pub bytes_of : Kept → List ℕ
bytes_of (Piece piece) = piece.now
bytes_of (Owned bytes) = bytes.items
