use Rattle.std.proofs.Common.{ap}
use Rattle.std.specs.Option.{option_copied}
use Rattle.nd_bytes.specs.Cut.{pieces}
use Rattle.nd_script.proofs.Operands.{more_behind}
use Rattle.nd_script.proofs.words.only_operand.Goals as goal

pub returns-in-Some-default-Some : goal.returns-in-Some-default-Some
returns-in-Some-default-Some c =
    more_behind c.args.bound (pieces 32 (option_copied c.args.words)) c.in-Some-default-Some.field-0-0 (option_copied c.in-Some-default-Some.field-0-1)
    c.in-Some-default-Some.field-0-1-0.now c.in-Some-default-Some.ensures (ap option_copied c.in-Some-default-Some.field-0-1-is)
