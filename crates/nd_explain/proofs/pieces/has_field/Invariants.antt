use Rattle.std.proofs.Common.{◌≡◌, drop}
use Rattle.nd_explain.specs.Pieces.{has_field}
use Rattle.nd_explain.proofs.pieces.has_field.Given as goal

abbrev pub invariant-loop-byte : goal.invariant-loop-byte
invariant-loop-byte l = has_field (drop l.byte-index l.entry) ≡ has_field l.entry
