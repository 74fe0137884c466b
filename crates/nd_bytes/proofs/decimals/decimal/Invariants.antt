use Rattle.std.proofs.Common.{◌≡◌, ◌≤◌, drop}
use Rattle.nd_bytes.specs.Decimal.{digits}
use Rattle.nd_bytes.proofs.decimals.decimal.Given as goal

abbrev pub invariant-loop-byte : goal.invariant-loop-byte
invariant-loop-byte l = record {
  within : l.value ≤ l.limit;
  same : digits l.value (drop l.byte-index l.bytes) ≡ digits 0 l.bytes;
}
