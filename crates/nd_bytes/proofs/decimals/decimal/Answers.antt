use Rattle.std.proofs.Common.{arith}
use Rattle.nd_bytes.proofs.Digits.{refused}
use Rattle.nd_bytes.proofs.decimals.decimal.Goals as goal

pub returns-then-value-from : goal.returns-then-value-from
returns-then-value-from c =
    let gone = refused c.args.limit c.loop-byte.value c.args.bytes.now c.loop-byte.byte-index c.loop-byte-test.true c.if-byte-lt48.false c.if-byte-gt57.false (omega arith) c.loop-byte.invariant.same in
    grind (arith, gone)
