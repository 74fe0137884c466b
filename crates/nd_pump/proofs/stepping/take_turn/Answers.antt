use Rattle.std.proofs.Common.{reverse}
use Rattle.nd_history.specs.Premises.{premises_of}
use Rattle.nd_history.proofs.Boards.{ready_said}
use Rattle.nd_pump.proofs.Taking.{left_waiting}
use Rattle.nd_pump.proofs.stepping.take_turn.Goals as goal

pub step_for-requires-clause-ready : goal.step_for-requires-clause-ready
step_for-requires-clause-ready c =
    ready_said (premises_of c.args.inputs.now) (reverse c.args.book.now.entries) c.args.board.now c.requires.fit.legal c.requires.marked c.args.drv c.if-not-is_ready.ensures

pub returns-in_default-clause-taken : goal.returns-in_default-clause-taken
returns-in_default-clause-taken c =
    left_waiting (premises_of c.args.inputs.now) (reverse c.args.book.now.entries) c.args.board.now c.args.turns.now c.decide_by_kind-decision.new.self c.park.new.self c.args.drv
    c.requires.fit.sound c.requires.turns c.requires.due c.decide_by_kind-decision.ensures.searched c.park.ensures.queue
