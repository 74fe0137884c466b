use Rattle.nd_journal.proofs.LineStarts.{cut_lines}
use Rattle.nd_journal.proofs.laws.cut_lines.Goals as goal

pub returns : goal.returns
returns c = cut_lines
