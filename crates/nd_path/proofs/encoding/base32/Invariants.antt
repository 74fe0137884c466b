use Rattle.std.proofs.Common.{◌≡◌, ◌-◌, ◌<◌, ℕ, length, get_or}
use Rattle.nd_path.specs.Encoding.{character_of}
use Rattle.nd_path.proofs.encoding.base32.Given as goal

abbrev pub invariant-loop-i : goal.invariant-loop-i
invariant-loop-i l = record {
  size : length l.text ≡ 32;
  written : (k : ℕ) → k < l.i → get_or l.text k 0 ≡ character_of l.bytes (31 - k);
}
