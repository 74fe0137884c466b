use Rattle.std.specs.Option.{option_copied}
use Rattle.nd_bytes.specs.Cut.{pieces}
use Rattle.nd_script.specs.declared.command.Command.{Command}
use Rattle.nd_script.proofs.Operands.{never_fails, no_fail}
use Rattle.nd_script.proofs.lines.fail.Goals as goal

pub returns-in-None-clause-refused : goal.returns-in-None-clause-refused
returns-in-None-clause-refused c = never_fails c.args.drvs Command.Fail (pieces 32 (option_copied c.args.words)) c.in-None.ensures

pub returns-in-None-status-clause-refused : goal.returns-in-None-status-clause-refused
returns-in-None-status-clause-refused c =
    no_fail c.args.drvs Command.Fail (pieces 32 (option_copied c.args.words)) c.in-Some.found.0 (pieces 32 (option_copied c.in-Some.found.1)) c.in-Some.ensures c.in-None-status.ensures
