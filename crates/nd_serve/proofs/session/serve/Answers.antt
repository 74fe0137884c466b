use Rattle.std.proofs.Common.{subst}
use Rattle.std.proofs.result.Match.{err_is}
use Rattle.nd_serve.specs.Steps.{GoesOn}
use Rattle.nd_serve.proofs.Serving.{session_ends, session_cut}
use Rattle.nd_serve.proofs.session.serve.Goals as goal

pub returns-in_err-take_turn-clause-partly : goal.returns-in_err-take_turn-clause-partly
returns-in_err-take_turn-clause-partly g c =
    rw (err_is c.from_residual-in_err-take_turn.result _ c.from_residual-in_err-take_turn.ensures.1)
    (session_cut _ _ _ _ _ _ _ _ _ _ c.loop-turn.invariant.served c.loop-turn.invariant.inputs c.in_err-take_turn.ensures.cut)

pub returns-then-not-branch-clause-served : goal.returns-then-not-branch-clause-served
returns-then-not-branch-clause-served g c =
    session_ends _ _ _ _ _ _ _ _ _ c.loop-turn.invariant.served
    (subst (GoesOn c.loop-turn.dispatch.inputs c.loop-turn.dispatch.history c.take_turn.new.dispatch.history (g.D.Desk.seen c.loop-turn.desk) (g.D.Desk.seen c.take_turn.new.desk)) c.if-not-branch.true c.in_ok-take_turn.ensures.goes_on)
