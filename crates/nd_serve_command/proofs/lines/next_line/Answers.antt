use Rattle.nd_serve_command.proofs.LineReading.{none_heard}
use Rattle.nd_serve_command.proofs.lines.next_line.Goals as goal

pub returns-in-None : goal.returns-in-None
returns-in-None g c = none_heard _ _ _ _ _ c.in-Ok.ensures.bytes c.in-None.ensures c.as_slice.ensures.value c.new-line.ensures.items
