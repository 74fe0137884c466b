use Rattle.std.proofs.Common.{sym}
use Rattle.std.specs.Option.{option_copied}
use Rattle.nd_bytes.specs.Cut.{pieces}
use Rattle.nd_script.specs.Verbs.{verb_of}
use Rattle.nd_script.specs.Script.{IsSaid}
use Rattle.nd_script.proofs.Operands.{line_said, line_refused}
use Rattle.nd_script.proofs.lines.read_line.Goals as goal

pub returns-clause-found : goal.returns-clause-found
returns-clause-found c = line_said verb_of (IsSaid c.args.drvs c.args.machines) c.args.line.now c.cut.result.0.now (pieces 32 (option_copied c.cut.result.1)) c.in-Some.verb
    c.cut.ensures.whole (sym c.in-Some.ensures) c.said.result c.said.ensures.found

pub returns-clause-refused : goal.returns-clause-refused
returns-clause-refused c = line_refused verb_of (IsSaid c.args.drvs c.args.machines) c.args.line.now c.cut.result.0.now (pieces 32 (option_copied c.cut.result.1)) c.in-Some.verb
    c.cut.ensures.whole (sym c.in-Some.ensures) c.said.result c.said.ensures.refused
