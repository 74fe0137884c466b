use Rattle.std.proofs.Common.{sym}
use Rattle.std.specs.Option.{option_copied}
use Rattle.nd_bytes.specs.Cut.{pieces}
use Rattle.nd_script.specs.Stand.{topic_of, IsRuled}
use Rattle.nd_script.proofs.Operands.{line_said, line_refused}
use Rattle.nd_script.proofs.stand_lines.read_rule.Goals as goal

pub returns-clause-found : goal.returns-clause-found
returns-clause-found c = line_said topic_of (IsRuled c.args.drvs c.args.machines) c.args.line.now c.cut.result.0.now (pieces 32 (option_copied c.cut.result.1)) c.in-Some.topic
    c.cut.ensures.whole (sym c.in-Some.ensures) c.ruled.result c.ruled.ensures.found

pub returns-clause-refused : goal.returns-clause-refused
returns-clause-refused c = line_refused topic_of (IsRuled c.args.drvs c.args.machines) c.args.line.now c.cut.result.0.now (pieces 32 (option_copied c.cut.result.1)) c.in-Some.topic
    c.cut.ensures.whole (sym c.in-Some.ensures) c.ruled.result c.ruled.ensures.refused
