use Rattle.std.proofs.Common.{ap}
use Rattle.std.specs.Prelude.{option_copied}
use Rattle.nd_serve_command.proofs.LineReading.{ends_there}
use Rattle.nd_serve_command.proofs.lines.line_end.Goals as goal

pub returns-in-Some : goal.returns-in-Some
returns-in-Some c = ends_there _ _ _ _ c.cut.ensures.front c.cut.ensures.rest (ap option_copied c.in-Some.is)
