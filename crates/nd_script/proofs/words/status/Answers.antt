use Rattle.std.proofs.Common.{ap, ◌∙◌}
use Rattle.std.specs.Option.{option_copied}
use Rattle.nd_bytes.specs.Cut.{pieces}
use Rattle.nd_script.proofs.Operands.{more_than_status}
use Rattle.nd_script.proofs.words.status.Goals as goal

pub returns-in-Some-rest : goal.returns-in-Some-rest
returns-in-Some-rest c =
    more_than_status (pieces 32 (option_copied c.args.words)) c.cut.result.0.now (option_copied c.cut.result.1) c.in-Some-rest.field-0.now
    (ap (pieces 32) (ap option_copied c.in-Some.is) ∙ c.cut.ensures.whole) (ap option_copied c.in-Some-rest.is)
