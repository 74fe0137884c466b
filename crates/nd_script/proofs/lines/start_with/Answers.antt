use Rattle.std.specs.Option.{option_copied}
use Rattle.nd_bytes.specs.Cut.{pieces}
use Rattle.nd_script.proofs.Operands.{never_starts}
use Rattle.nd_script.proofs.lines.start_with.Goals as goal

pub returns-in-None-clause-refused : goal.returns-in-None-clause-refused
returns-in-None-clause-refused c = never_starts c.args.drvs (pieces 32 (option_copied c.args.words)) c.in-None.ensures
