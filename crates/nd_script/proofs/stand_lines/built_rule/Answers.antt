use Rattle.std.proofs.Common.{ap}
use Rattle.std.specs.Option.{option_copied}
use Rattle.nd_bytes.specs.Cut.{pieces}
use Rattle.nd_script.specs.declared.rule.Rule.{Rule}
use Rattle.nd_script.specs.Stand.{built_bare}
use Rattle.nd_script.proofs.Operands.{never_ends, no_end}
use Rattle.nd_script.proofs.stand_lines.built_rule.Goals as goal

pub returns-in-Err-clause-refused : goal.returns-in-Err-clause-refused
returns-in-Err-clause-refused c =
    no_end c.args.drvs built_bare Rule.Built (pieces 32 (option_copied c.args.words)) c.in-Some.found.0 (option_copied c.in-Some.found.1) c.in-Some-rest.field-0.now c.in-Err.fault
    c.in-Some.ensures (ap option_copied c.in-Some-rest.is) c.in-Err.ensures.refused

pub returns-in-None-clause-refused : goal.returns-in-None-clause-refused
returns-in-None-clause-refused c = never_ends c.args.drvs built_bare Rule.Built (pieces 32 (option_copied c.args.words)) c.in-None.ensures
