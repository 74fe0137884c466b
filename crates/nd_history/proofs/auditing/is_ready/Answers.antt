use Rattle.std.proofs.Common.{reverse}
use Rattle.nd_history.specs.Premises.{premises_of}
use Rattle.nd_history.proofs.Boards.{ready_told}
use Rattle.nd_history.proofs.auditing.is_ready.Goals as goal

pub returns : goal.returns
returns c =
    ready_told (premises_of c.args.inputs.now) (reverse c.args.book.now.entries) c.args.board.now c.requires.fit.legal c.requires.marked c.args.drv c.is_ready.result c.is_ready.ensures
