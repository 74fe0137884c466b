use Rattle.std.proofs.Common.{rules}
use Rattle.nd_failure.proofs.board.fresh_lists.Goals as goal

pub returns-clause-marks : goal.returns-clause-marks
returns-clause-marks c = c.in_ok-marks.ensures.items_if_clones_equal (search rules)
