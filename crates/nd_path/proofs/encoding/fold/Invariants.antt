use Rattle.std.proofs.Common.{◌≡◌, ◌<◌, ℕ, length, get_or}
use Rattle.nd_path.specs.Encoding.{folded_byte_of}
use Rattle.nd_path.proofs.encoding.fold.Given as goal

abbrev pub invariant-loop-j : goal.invariant-loop-j
invariant-loop-j l = record {
  size : length l.folded ≡ 20;
  written : (k : ℕ) → k < l.j → get_or l.folded k 0 ≡ folded_byte_of l.digest k;
}
